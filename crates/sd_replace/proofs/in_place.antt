pub mod InPlaceLemmas
pub mod OnwardLemmas
pub mod RewriteLemmas
