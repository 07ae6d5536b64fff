pub mod Ops
pub mod Root
pub mod Narrow
pub mod Cross
pub mod Constants
pub mod Claims
pub mod Inner
