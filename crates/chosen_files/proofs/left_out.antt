-- What the proofs about rules below a top use.
pub mod AfterLemmas
