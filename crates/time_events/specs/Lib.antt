-- Round trips in a slot's rows.
pub mod Pairs
