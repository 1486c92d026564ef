-- Laws of tests, of the search's steps, and of the halving.
pub mod SearchLaws
pub mod HalvingLaws
pub mod ProvenLaws
