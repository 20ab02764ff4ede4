pub mod Laws
pub mod Promises
mod Ways
