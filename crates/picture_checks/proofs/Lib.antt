pub mod Checked
pub mod Sides
