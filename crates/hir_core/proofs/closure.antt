pub mod ClosureLemmas
pub mod EndLemmas
pub mod TurnLemmas
pub mod VisitLemmas
