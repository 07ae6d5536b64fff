pub mod Points
pub mod Dotted
pub mod Pixels
pub mod Controls
