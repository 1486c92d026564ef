-- Laws of the writers of words, over any part and place.
pub mod PartLaws
pub mod Lengths
