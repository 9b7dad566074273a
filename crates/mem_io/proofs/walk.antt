-- What the proofs about where paths lead in memory use.
pub mod StepLemmas
pub mod RoundLemmas
pub mod NamedLemmas
pub mod PlainLemmas
pub mod FreePlaceLemmas
pub mod StandLemmas
