-- Laws of the rows: a row that was made to say something says it.
pub mod RowLaws
pub mod MakerLaws
pub mod PartLaws
pub mod BitLaws
pub mod SampleLaws
