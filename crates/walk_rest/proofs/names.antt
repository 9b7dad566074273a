-- What the proofs about file names use.
pub mod LastLemmas
