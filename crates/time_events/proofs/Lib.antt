-- Laws that the proofs of several functions cite.
pub mod StoreLaws
pub mod EventLaws
mod LeadLaws
