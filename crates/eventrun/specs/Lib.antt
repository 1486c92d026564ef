-- What a file of events gives.
pub mod Runs
