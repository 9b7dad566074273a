-- What the proof about numbers uses.
pub mod NumberLemmas
