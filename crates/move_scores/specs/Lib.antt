pub mod Scores
pub mod Ranks
