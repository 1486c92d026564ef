-- Laws that the proofs of several functions cite.
pub mod TopLaws
pub mod KeyedLaws
pub mod PickLaws
pub mod TripLaws
pub mod AnswerLaws
pub mod StepLaws
