-- What the plan of a tree uses.
pub mod EndLemmas
