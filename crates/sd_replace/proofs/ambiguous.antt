pub mod AmbiguousLemmas
