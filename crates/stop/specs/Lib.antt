-- What a path's silence and stop are (document 01, "Files and tail", last paragraph).
pub mod Silence
