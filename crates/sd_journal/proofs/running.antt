-- What a run uses.
pub mod RunLemmas
pub mod TellLemmas
