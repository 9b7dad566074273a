-- What the proofs of the laws use.
pub mod PlanLemmas
pub mod MoveLemmas
pub mod RestLemmas
pub mod NameLemmas
