-- What the proofs about the parts of a path use.
pub mod PieceLemmas
pub mod TextLemmas
