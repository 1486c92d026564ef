-- The examples, computed, and what demand 3 says of them.
pub mod Computed
pub mod Changed
pub mod Books
