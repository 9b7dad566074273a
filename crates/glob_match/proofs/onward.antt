pub mod BackwardLemmas
pub mod OnwardLemmas
