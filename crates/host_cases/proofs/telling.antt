-- What the proofs about listing use.
pub mod OpenLemmas
