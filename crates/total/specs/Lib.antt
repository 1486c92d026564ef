-- The order of floats: totalOrder of IEEE 754-2019 on bit patterns and on values, clamp and maximum; a float, its
-- pattern and its place.
pub mod Total
pub mod Values
pub mod Patterns
pub mod Places
