-- Document 01, "Identifiers" and "Ring (8) and late list (4)".
pub mod Ids
pub mod Ring
pub mod Lapse
