-- The answer to an event: the first refusal that applies, and an answer as a number and a value.
pub mod Refusals
