-- What the C functions of the ring door, the finder and the tag list leave in their out-parameters, by a trace and by tags.
pub mod Rings
pub mod Tags
