pub mod BigEndian
pub mod Fronts
pub mod Promises
