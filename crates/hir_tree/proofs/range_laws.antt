pub mod SameRangesLemmas
