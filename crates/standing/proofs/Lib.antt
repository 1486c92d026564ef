-- Fields of several widths one behind the other; how many bytes a standing has, and what its map says.
pub mod Laying
pub mod Bytes
pub mod Writing
