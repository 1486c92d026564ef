-- Sizes (document 01, "Ring (8) and late list (4)": `size`, and "Size search").
pub mod Ladder
pub mod Rules
pub mod Search
