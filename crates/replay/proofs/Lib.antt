-- Laws of the records.
pub mod ReplayLaws
