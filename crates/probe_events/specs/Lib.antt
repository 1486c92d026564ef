-- What a poll's steps leave of a slot's rows.
pub mod Scan
pub mod Poll
