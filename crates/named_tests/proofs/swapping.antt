pub mod SwappedLemmas
