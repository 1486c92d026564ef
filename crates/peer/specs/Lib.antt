-- A peer record in lent words: four settings, and eight slots of rows.
pub mod Record
pub mod Calls
