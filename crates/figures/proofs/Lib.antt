-- The computation of the figures.
mod Computed
