-- Laws of writers and readers, over any width and place.
pub mod Write
pub mod Fill
pub mod Read
pub mod Eight
