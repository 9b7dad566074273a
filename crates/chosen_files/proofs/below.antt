-- What the proofs about paths below a folder use.
pub mod NamesLemmas
