pub mod Form
pub mod Doors
pub mod Steps
pub mod Head
pub mod Claims
