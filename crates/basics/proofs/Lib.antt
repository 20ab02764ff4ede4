pub mod Ladder
pub mod Rounds
pub mod Bits
pub mod Values
pub mod Votes
pub mod Places
pub mod Answer
