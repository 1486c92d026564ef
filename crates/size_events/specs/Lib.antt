-- What the search probe's part of an answer leaves in a slot's rows.
pub mod Settles
