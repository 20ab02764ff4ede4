pub mod Packet
pub mod Promises
