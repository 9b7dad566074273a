pub mod LimitLemmas
pub mod WithinLemmas
