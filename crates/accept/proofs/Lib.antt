pub mod BestScores
pub mod Controls
