pub mod Delivery
pub mod Promises
