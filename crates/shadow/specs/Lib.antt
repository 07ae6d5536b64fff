pub mod Shadow
pub mod Claims
