-- What the single functions reply.
pub mod Single
