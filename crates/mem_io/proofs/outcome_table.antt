-- What the proofs about the outcomes of all places use.
pub mod TableLemmas
