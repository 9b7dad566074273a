pub mod CharRangesLemmas
