-- Laws that the proofs of several functions cite.
pub mod PollLaws
pub mod EventLaws
pub mod ScanLaws
pub mod SweepLaws
