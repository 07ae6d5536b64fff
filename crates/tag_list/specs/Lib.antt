pub mod Tags
pub mod Inner
pub mod Claims
