-- Laws that the proofs of several functions cite.
pub mod SweepLaws
pub mod ClosedLaws
pub mod PlaceLaws
