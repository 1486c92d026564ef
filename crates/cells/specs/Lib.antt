-- Rows of four words: what a row says, and the row that says a given thing.
pub mod Cells
pub mod Code
