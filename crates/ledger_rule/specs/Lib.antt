pub mod Rule
pub mod Sums
pub mod Promises
