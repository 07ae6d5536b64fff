pub mod Record
pub mod Input
pub mod Claims
