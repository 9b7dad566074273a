-- What the proofs of the examples use.
pub mod PlanBy
pub mod StepLemmas
