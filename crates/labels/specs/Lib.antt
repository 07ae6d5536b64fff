pub mod Labels
pub mod Cells
pub mod Labelling
pub mod Inner
pub mod Claims
