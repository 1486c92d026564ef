-- What is read of a record in rows.
pub mod Choosing
