pub mod Exact
pub mod QuadExact
pub mod Controls
pub mod Walks
pub mod Pairs
pub mod Floats
