pub mod RoundTrip
pub mod Laws
pub mod Widths
mod Mark
mod ReadWays
mod WriteWays
