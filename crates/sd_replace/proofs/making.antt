pub mod MakingLemmas
pub mod TreeLemmas
