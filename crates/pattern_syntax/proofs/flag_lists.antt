pub mod DistinctLemmas
pub mod FlagListLemmas
