-- ETX, the quality index and durations in seconds (document 01, "RTT, ETX, score").
pub mod Etx
