-- What the functions on a record reply.
pub mod Record
