-- What C functions answer and leave in their out-parameters, by the doors' answers about border cells and marks.
pub mod Cells
pub mod Poses
