pub mod Door
pub mod Inner
