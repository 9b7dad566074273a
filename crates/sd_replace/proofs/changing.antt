pub mod ChangingLemmas
pub mod SearchLemmas
