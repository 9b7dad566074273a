pub mod CompileLemmas
pub mod PlacingLemmas
