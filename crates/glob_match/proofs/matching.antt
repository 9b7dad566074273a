pub mod FittingLemmas
pub mod MatchingLemmas
