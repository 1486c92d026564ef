-- Laws that the proofs of several functions cite.
pub mod BlockLaws
pub mod ViewLaws
pub mod CloseLaws
pub mod CodeLaws
pub mod NewLaws
pub mod SaysLaws
