-- What the proofs about a tree and the changes in it use.
pub mod MediumLemmas
