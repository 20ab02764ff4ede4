mod Computed
mod Ledger
