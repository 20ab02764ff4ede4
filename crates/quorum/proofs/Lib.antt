mod Bits
pub mod Laws
mod Allowed
pub mod Voters
pub mod Senders
