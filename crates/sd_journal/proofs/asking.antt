-- What the reading of the words uses.
pub mod WordLemmas
