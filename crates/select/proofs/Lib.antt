-- What the proofs of the choice's code share, and the laws of the choice.
pub mod MapLaws
pub mod MediaLaws
pub mod OrderLaws
pub mod ChoiceLaws
pub mod PickedLaws
pub mod SlimLaws
