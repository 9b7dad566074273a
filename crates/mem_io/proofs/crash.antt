-- What the proofs about the images of a disk in memory use.
pub mod ImageLemmas
pub mod AloneLemmas
pub mod DeviceLemmas
