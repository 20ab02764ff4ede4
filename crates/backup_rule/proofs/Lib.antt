mod Ways
pub mod Next
pub mod Laws
