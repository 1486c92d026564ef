-- What holds a change of path, and the hold on the link's cost.
pub mod Hold
