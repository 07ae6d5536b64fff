pub mod Trace
pub mod Checks
pub mod Door
