-- What the proofs about the disk in memory use.
pub mod DiskLemmas
pub mod WritingLemmas
pub mod AloneLemmas
pub mod MomentLemmas
pub mod RenamingLemmas
pub mod ChangingLemmas
