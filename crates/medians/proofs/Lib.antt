pub mod Order
pub mod Counts
pub mod Partition
pub mod Selection
pub mod Statistics
pub mod Usable
pub mod Numbers
pub mod Controls
