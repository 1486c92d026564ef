-- The fixed list of the Rust's answers.
pub mod Replay
