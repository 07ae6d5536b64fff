pub mod Bows
pub mod EdgeMeasures
pub mod HullQuads
pub mod Estimates
