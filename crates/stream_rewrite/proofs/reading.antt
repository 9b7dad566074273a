-- What reading uses.
pub mod ReadingLemmas
