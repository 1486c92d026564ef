-- What C gets and passes.
pub mod Replies
