pub mod Median
pub mod Inner
