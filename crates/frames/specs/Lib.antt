pub mod Frame
pub mod Header
pub mod Promises
