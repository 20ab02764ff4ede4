pub mod Laws
mod Pairs
mod Turns
