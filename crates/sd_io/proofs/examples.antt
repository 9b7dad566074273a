-- What the proofs of the worked examples use.
pub mod ExampleLemmas
