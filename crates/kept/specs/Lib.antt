-- What every path keeps, whatever is called on it.
pub mod Kept
