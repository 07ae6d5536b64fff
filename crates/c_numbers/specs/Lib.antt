-- What C functions answer and leave in their out-parameters, by transforms and by the answers of equations and medians.
pub mod Maps
