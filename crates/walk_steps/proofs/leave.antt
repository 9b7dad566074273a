-- What the proofs about lists of a walk use.
pub mod SoundLemmas
pub mod WithinLemmas
pub mod OthersLemmas
