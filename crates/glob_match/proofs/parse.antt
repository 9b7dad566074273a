pub mod NestingLemmas
pub mod ReadingLemmas
