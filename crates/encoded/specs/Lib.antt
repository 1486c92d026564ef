-- A slot stored in rows by the encoder.
pub mod Probed
