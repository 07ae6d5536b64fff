pub mod Controls
pub mod Numbers
pub mod Texts
