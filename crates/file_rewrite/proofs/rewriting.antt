-- What the rewriting of one file uses.
pub mod ReachedLemmas
pub mod FindingLemmas
pub mod CauseLemmas
pub mod FileLemmas
pub mod PuttingLemmas
