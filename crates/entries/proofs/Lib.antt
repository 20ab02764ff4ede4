pub mod RoundTrip
pub mod Laws
mod Ways
