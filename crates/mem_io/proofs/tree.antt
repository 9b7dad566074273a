-- What the proofs about the tree of a disk in memory use.
pub mod EntryLemmas
pub mod TreeLemmas
pub mod ListingLemmas
pub mod ListedLemmas
pub mod OrderLemmas
pub mod SoundLemmas
pub mod AddedLemmas
