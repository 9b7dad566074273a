-- What the proofs about what a list told use.
pub mod ToldLemmas
