pub mod Cuts
pub mod Skips
pub mod Scans
pub mod Writes
pub mod Sweeps
pub mod Doors
