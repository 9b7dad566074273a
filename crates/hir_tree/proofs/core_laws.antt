pub mod CoreNumbersLemmas
pub mod CoreSpotsLemmas
pub mod CoresLemmas
