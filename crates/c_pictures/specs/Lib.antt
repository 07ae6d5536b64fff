-- What C functions answer and leave in their out-parameters, by the answers about regions, outlines, quads, PGM files and rows.
pub mod Answers
pub mod Kept
pub mod Files
