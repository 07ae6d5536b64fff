pub mod Numbers
pub mod Turns
pub mod Pairs
pub mod Quads
pub mod Answers
