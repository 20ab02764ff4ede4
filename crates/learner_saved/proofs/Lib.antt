mod Ways
pub mod Promises
pub mod RoundTrip
