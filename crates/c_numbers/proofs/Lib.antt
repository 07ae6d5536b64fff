-- Laws of the crate.
pub mod Handed
