pub mod OneDerivationLemmas
