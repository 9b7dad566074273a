-- What the proofs about walks on the stack use.
pub mod TrailLemmas
pub mod DeviceLemmas
