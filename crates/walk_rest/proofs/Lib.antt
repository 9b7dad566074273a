-- The lemmas that upper crates need, passed on.
pub use Rattle.walk_rest.proofs.laws.PlanLemmas
pub use Rattle.walk_rest.proofs.laws.MoveLemmas
pub use Rattle.walk_rest.proofs.laws.RestLemmas
pub use Rattle.walk_rest.proofs.laws.NameLemmas
pub use Rattle.walk_rest.proofs.read.ReadLemmas
pub use Rattle.walk_rest.proofs.read.SortLemmas
pub use Rattle.walk_rest.proofs.read.FolderLemmas
pub use Rattle.walk_rest.proofs.existence.ReachLemmas
pub use Rattle.walk_rest.proofs.existence.ExistenceLemmas
