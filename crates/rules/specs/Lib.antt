-- The peer record (document 01, "Peer record"): its events, its rules, demand 3, and document 02's claim on dues.
pub mod Event
pub mod Rules
pub mod Step
pub mod Answers
pub mod Book
pub mod Demand3
pub mod Dues
