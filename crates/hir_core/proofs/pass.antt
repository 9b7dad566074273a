pub mod PassLemmas
pub mod RoundLemmas
pub mod SkipLemmas
