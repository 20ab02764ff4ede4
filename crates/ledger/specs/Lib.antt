pub mod Ledger
pub mod Promises
