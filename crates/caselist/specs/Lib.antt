-- A list of event files, each with the lines that it is to give, and of lists of events in words, each with its answers
-- and standings.
pub mod Lists
pub mod Cases
