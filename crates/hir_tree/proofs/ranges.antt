pub mod RangesLemmas
pub mod SortedLemmas
