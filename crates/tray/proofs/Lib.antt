pub mod Records
pub mod Files
pub mod Inputs
pub mod Apart
pub mod Kept
pub mod Headers
pub mod Readings
