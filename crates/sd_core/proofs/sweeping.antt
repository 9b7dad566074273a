-- What a sweep uses.
pub mod SweepLemmas
