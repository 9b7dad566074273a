-- What the printing of a line uses.
pub mod LineLemmas
