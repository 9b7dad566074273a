pub mod MarkedLemmas
pub mod OneOpening
pub mod OpeningLemmas
