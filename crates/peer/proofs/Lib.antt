-- Laws that the proofs of several functions cite.
pub mod FreshLaws
pub mod EventLaws
pub mod CallLaws
pub mod StepLaws
