-- Laws of the ladder's sizes.
pub mod RungLaws
