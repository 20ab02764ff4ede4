mod Stores
mod Ways
pub mod Promises
