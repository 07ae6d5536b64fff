pub mod Lists
pub mod Eliminations
pub mod Doors
pub mod Samples
pub mod Controls
