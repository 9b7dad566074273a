-- What the proofs about open lists use.
pub mod OpenListsLemmas
