-- What a program asks of a session besides its calls.
pub mod Feed
