-- A field by value.
pub mod FieldLaws
