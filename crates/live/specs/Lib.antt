-- One path: the parts' rules put together, and the refusals of the callable methods.
pub mod Path
pub mod New
pub mod Answers
pub mod Probe
pub mod Search
pub mod Times
