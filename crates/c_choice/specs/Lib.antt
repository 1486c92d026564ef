-- What the choice replies, its rivals given as bytes.
pub mod Choice
