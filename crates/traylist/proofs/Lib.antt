pub mod Controls
pub mod Reading
