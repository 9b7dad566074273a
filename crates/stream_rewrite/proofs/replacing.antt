-- What the replacing of a stream uses.
pub mod StreamLemmas
