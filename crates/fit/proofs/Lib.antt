pub mod Bands
pub mod Sums
pub mod Selects
pub mod Lines
pub mod Trials
pub mod EdgeLines
