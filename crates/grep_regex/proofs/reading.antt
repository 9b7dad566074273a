pub mod AnswerLemmas
pub mod FoldingLemmas
pub mod GroupLemmas
pub mod KnownLemmas
pub mod ParenLemmas
pub mod PatternLemmas
pub mod ReadLemmas
