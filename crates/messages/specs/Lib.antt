pub mod Table
pub mod Message
