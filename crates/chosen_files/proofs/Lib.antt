-- The lemmas that upper crates need, passed on.
pub use Rattle.chosen_files.proofs.laws.ChosenLemmas
pub use Rattle.chosen_files.proofs.laws.ContentLemmas
pub use Rattle.chosen_files.proofs.laws.EntryLemmas
pub use Rattle.chosen_files.proofs.laws.PlaceLemmas
pub use Rattle.chosen_files.proofs.laws.RootLemmas
pub use Rattle.chosen_files.proofs.examples.GlobLemmas
pub use Rattle.chosen_files.proofs.examples.StandsLemmas
