pub mod Points
pub mod Hull
pub mod Door
pub mod Quad
pub mod Claims
pub mod Inner
