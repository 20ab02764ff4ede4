pub mod Sum
pub mod Promises
