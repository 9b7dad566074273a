-- What the selecting of files uses.
pub mod GlobLemmas
pub mod NamedLemmas
pub mod SelectionLemmas
