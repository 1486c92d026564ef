-- The keys of a choice, and the least of them.
pub mod Keys
