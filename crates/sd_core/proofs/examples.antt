-- What the proofs of the examples use.
pub mod SmallTreeLemmas
