-- What the proofs about the choice use.
pub mod BeginLemmas
pub mod ListLemmas
pub mod PartLemmas
pub mod WalkLemmas
