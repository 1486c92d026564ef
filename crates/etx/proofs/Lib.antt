-- Laws of the definitions in specs/.
mod FoldLaws
pub mod Literals
pub mod WithinLaws
pub mod ScoreLaws
