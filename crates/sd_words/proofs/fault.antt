-- What the proofs about refusals use.
pub mod RefusalLemmas
