pub mod Bytes
mod Ways
pub mod Fronts
pub mod RoundTrip
