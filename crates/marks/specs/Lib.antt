pub mod Claims
pub mod Classify
pub mod Correlate
pub mod Doors
pub mod Pose
pub mod Split
