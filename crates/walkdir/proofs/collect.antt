-- What collecting gives.
pub mod RestLemmas
pub mod CollectLemmas
