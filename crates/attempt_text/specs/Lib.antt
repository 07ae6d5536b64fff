pub mod Attempt
pub mod Traced
