-- A rival in words.
pub mod Rows
