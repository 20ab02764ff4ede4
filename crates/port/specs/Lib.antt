pub mod Framed
pub mod Promises
