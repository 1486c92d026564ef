-- Laws that the proofs of several functions cite.
pub mod KindLaws
pub mod RefuseLaws
pub mod ReplyLaws
