pub mod Passes
pub mod Lent
pub mod Promises
