mod Ways
pub mod Delivered
