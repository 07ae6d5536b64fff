pub mod Past
pub mod Pair
