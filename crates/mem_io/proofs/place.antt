-- What the proofs about places use.
pub mod PlaceLemmas
pub mod ParentLemmas
