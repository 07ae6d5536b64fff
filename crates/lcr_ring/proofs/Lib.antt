-- Laws of the crate.
pub mod Attempts
pub mod Founds
pub mod Leaves
pub mod Signed
