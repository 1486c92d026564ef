-- A slot of a record in rows of four words.
pub mod Places
pub mod Parts
pub mod View
pub mod Encode
pub mod Says
