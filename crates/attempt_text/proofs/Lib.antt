pub mod Parts
pub mod Texts
pub mod Records
pub mod Few
pub mod Wholes
pub mod Controls
