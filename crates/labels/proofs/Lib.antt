-- Laws of the words of an event.
pub mod EventLaws
