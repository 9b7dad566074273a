-- The lemmas that upper crates need, passed on.
pub use Rattle.sd_core.proofs.selecting.SelectionLemmas
