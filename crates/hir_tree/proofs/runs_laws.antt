pub mod NumbersLemmas
pub mod RunsLemmas
pub mod WholeLemmas
