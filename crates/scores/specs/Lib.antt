-- Scores of a path.
pub mod Scores
