pub mod Tables
pub mod Lent
pub mod Promises
