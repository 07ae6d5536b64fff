pub mod Points
pub mod Checks
pub mod Exact
pub mod Accepted
pub mod Twices
pub mod Controls
