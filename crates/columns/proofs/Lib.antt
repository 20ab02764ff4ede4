pub mod Columns
pub mod Walks
pub mod Fresh
pub mod Ways
mod Fills
