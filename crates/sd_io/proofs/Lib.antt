-- The lemmas that upper crates need, passed on.
pub use Rattle.sd_io.proofs.laws.PathLemmas
pub use Rattle.sd_io.proofs.laws.WayLemmas
pub use Rattle.sd_io.proofs.laws.OutcomeLemmas
pub use Rattle.sd_io.proofs.laws.CrashLemmas
pub use Rattle.sd_io.proofs.path_texts.PathTextLemmas
