pub mod Runs
pub mod OneRun
pub mod Boundary
pub mod Points
pub mod Outlines
pub mod Members
pub mod Controls
pub mod Sheared
