pub mod Pixels
pub mod Sampled
pub mod LumaLists
pub mod Maps
pub mod RingReads
pub mod Searches
pub mod NanSamples
pub mod Ends
