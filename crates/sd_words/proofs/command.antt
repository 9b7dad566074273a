-- What the proofs about the command use.
pub mod CommandLemmas
