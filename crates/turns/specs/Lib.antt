-- One event on a slot's rows.
pub mod Work
