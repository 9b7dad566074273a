-- The lemmas that upper crates need, passed on.
pub use Rattle.file_rewrite.proofs.rewriting.ReachedLemmas
