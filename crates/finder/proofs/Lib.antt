pub mod Regions
pub mod Standing
pub mod Passing
pub mod Prepared
pub mod Taken
