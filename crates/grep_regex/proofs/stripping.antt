pub mod BesideLemmas
pub mod WalkLemmas
