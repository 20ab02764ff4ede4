pub mod Eliminators
