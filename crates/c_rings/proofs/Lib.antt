-- Laws of the crate.
pub mod Placed
