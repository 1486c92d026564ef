-- Laws that the record's theorem cites: each method keeps what is kept.
pub mod KeptLaws
