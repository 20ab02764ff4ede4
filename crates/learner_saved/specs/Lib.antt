pub mod Saved
pub mod Promises
