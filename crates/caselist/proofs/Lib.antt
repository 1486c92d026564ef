-- Laws of the cases.
pub mod CaseLaws
pub mod FileLaws
pub mod ListLaws
pub mod StandLaws
