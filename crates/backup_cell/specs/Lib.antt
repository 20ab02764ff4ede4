pub mod Cell
pub mod Promises
