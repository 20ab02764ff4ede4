pub mod Steps
pub mod OnePass
pub mod Promises
mod Ways
