-- All output for all input, a session over portions of the input, and the claim that joins them.
pub mod Lines
pub mod Sessions
pub mod Words
pub mod Portions
pub mod Whole
