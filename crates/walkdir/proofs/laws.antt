-- What the proofs about all calls of a walk use.
pub mod CallsLemmas
pub mod ListingLemmas
