pub mod Rule
pub mod Promises
