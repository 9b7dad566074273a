-- The lemmas that upper crates need, passed on.
mod WalkLemmas
pub use Rattle.walkdir.proofs.gather.GatherLemmas
pub use Rattle.walkdir.proofs.gather.NextLemmas
