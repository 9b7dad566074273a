-- What the printing of a recovery uses.
pub mod PrefixLemmas
