pub mod Framing
pub mod Promises
pub mod Given
