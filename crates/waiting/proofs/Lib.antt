-- Laws that the proofs of several functions cite.
pub mod SoughtLaws
pub mod CloseLaws
pub mod ShutLaws
pub mod LateLaws
