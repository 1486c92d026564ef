-- The standing of a path.
pub mod Standing
