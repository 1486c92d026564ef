-- The twelve marked figures (document 01, "Twelve marked figures").
pub mod Paths
pub mod Figures
