mod Ways
pub mod Promises
