-- What the proofs about keeping a list use.
pub mod KeepLemmas
