-- What the function on a whole file replies.
pub mod Events
