-- The lemmas that upper crates need, passed on.
pub use Rattle.demo_tree.proofs.building.ContentLemmas
pub use Rattle.demo_tree.proofs.building.BuildLemmas
