-- What the proofs about reading lists use.
pub mod ReadLemmas
pub mod SortLemmas
pub mod FolderLemmas
