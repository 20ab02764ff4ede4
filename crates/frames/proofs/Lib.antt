pub mod Parts
pub mod Places
pub mod Laws
pub mod OneToOne
pub mod Damage
pub mod Promises
mod Sums
mod Ways
