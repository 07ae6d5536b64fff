pub mod Picture
pub mod Points
