pub mod Geometry
pub mod Samples
pub mod Lumas
pub mod Versions
pub mod Claims
