-- The two passes over a file's records, the slots, and the whole run.
pub mod ScanLaws
pub mod AnswerLaws
pub mod SlotLaws
pub mod RunLaws
