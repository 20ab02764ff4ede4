pub mod Run
pub mod Begin
pub mod Agreement
pub mod Evening
pub mod Examples
pub mod Slips
