-- What the proofs about commands use.
pub mod TreeLemmas
pub mod WordsLemmas
