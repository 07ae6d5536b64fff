pub mod Listed
pub mod Swept
pub mod Shared
pub mod Answers
