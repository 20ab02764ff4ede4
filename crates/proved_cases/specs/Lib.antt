pub mod Cases
pub mod Frames
pub mod Holes
pub mod Ledger
pub mod Orders
pub mod Rounds
pub mod WrittenOut
