pub mod LedgerAgreement
