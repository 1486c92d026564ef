-- Laws of event files.
pub mod FrontLaws
pub mod ReadLaws
pub mod FileLaws
pub mod WriteLaws
