pub mod Tightness
pub mod Exported
pub mod Refused
