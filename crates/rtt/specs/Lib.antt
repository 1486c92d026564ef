-- What a path's round trips are (document 01, "RTT, ETX, score").
pub mod Marks
pub mod Times
pub mod Samples
pub mod Spans
pub mod Rtts
pub mod Trips
