-- The image of a path.
pub mod Image
