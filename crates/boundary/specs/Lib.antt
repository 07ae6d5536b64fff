pub mod Runs
pub mod Boundary
