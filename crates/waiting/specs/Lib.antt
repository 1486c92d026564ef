-- What a function leaves of a slot's ring on its way to a rule's outcome.
pub mod Steps
