mod Ways
pub mod Laws
pub mod Promises
pub mod Answers
