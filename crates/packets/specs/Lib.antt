pub mod Packets
pub mod Promises
