-- What the proofs of the functions share, and the laws of `sample`.
pub mod SpanLaws
pub mod RttLaws
