-- What the reading of a plan uses.
pub mod LineLemmas
pub mod TextLemmas
pub mod ReadLemmas
