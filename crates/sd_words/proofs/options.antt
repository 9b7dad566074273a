-- What the proofs about options use.
pub mod OrderLemmas
pub mod TextLemmas
