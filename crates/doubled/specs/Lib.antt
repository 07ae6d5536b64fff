pub mod Points
pub mod Outline
pub mod Checks
pub mod Doubled
pub mod Claims
