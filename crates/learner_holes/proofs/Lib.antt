mod Ways
pub mod LeastHole
pub mod NoneExactly
