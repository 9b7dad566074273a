-- What the proofs about gathering use.
pub mod PartLemmas
pub mod GivenLemmas
pub mod NextLemmas
pub mod GatherLemmas
pub mod CountLemmas
