-- What the making of a plan uses.
pub mod PlanLemmas
