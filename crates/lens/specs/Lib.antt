pub mod Bow
pub mod Straight
pub mod Measure
pub mod Estimate
