-- The definitions that every crate shares.
pub mod Seq
pub mod First
pub mod Marked
pub mod Serial
pub mod Time
pub mod Limits
pub mod Refusals
pub mod Missing
pub mod Least
pub mod Passes
