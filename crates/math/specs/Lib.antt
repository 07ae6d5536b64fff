pub mod Lists
pub mod Elimination
pub mod Equations
