-- What the proofs of the examples use.
pub mod GlobLemmas
pub mod StandsLemmas
pub mod CountLemmas
pub mod TreeLemmas
pub mod KeptLemmas
