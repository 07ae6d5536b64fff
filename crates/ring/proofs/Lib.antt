pub mod Traces
pub mod Passing
pub mod Few
