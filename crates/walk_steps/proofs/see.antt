-- What the proofs about entries use.
pub mod SightLemmas
