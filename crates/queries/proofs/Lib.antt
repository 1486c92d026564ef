-- Laws that the proofs of several functions cite.
pub mod ChoiceLaws
pub mod BelowLaws
