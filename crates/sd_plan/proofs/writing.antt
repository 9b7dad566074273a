-- What the writing of a plan uses.
pub mod WrittenLemmas
