-- What the laws of the texts of places use.
pub mod PathTextLemmas
