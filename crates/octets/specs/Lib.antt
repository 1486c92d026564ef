-- Little-endian bytes.
pub mod Octets
