-- Small lists of events, with the answers that documents 01 and 02 name.
pub mod Lists
pub mod Changes
