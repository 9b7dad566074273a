-- What writing uses.
pub mod WritingLemmas
