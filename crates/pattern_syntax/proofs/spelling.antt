pub mod BlanksSplit
pub mod PlainLemmas
pub mod SpellingLemmas
