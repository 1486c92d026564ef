-- A rival and its row.
pub mod RowLaws
