-- What the proofs about standard input and named files use.
pub mod AppLemmas
