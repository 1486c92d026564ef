-- Rivals from bytes.
pub mod Fields
