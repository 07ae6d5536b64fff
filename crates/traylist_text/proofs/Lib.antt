pub mod Numbers
pub mod Outlines
pub mod Pieces
pub mod Lengths
pub mod Pictures
pub mod Texts
pub mod Readings
