-- Laws of numbers and lines as text.
pub mod TextLaws
