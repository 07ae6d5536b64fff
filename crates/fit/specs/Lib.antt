pub mod F32
pub mod Select
pub mod Line
pub mod Corner
pub mod Consensus
pub mod Inner
