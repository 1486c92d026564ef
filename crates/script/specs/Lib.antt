-- A script of calls on one path, as bytes.
pub mod Answers
pub mod Calls
pub mod Run
