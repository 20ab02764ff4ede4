pub mod Learner
pub mod Promises
