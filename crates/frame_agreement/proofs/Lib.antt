pub mod Calls
pub mod Agreement
