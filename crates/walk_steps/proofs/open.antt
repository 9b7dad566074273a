-- What the proofs about reading a directory use.
pub mod OpenLemmas
pub mod RootLemmas
