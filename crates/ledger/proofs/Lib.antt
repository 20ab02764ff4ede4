pub mod Promises
mod Lives
mod Ways
