pub mod ReachedLemmas
pub mod ReferenceLemmas
