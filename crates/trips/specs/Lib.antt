-- The least round trips in a slot's rows.
pub mod Trips
