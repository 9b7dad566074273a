-- The lemmas that upper crates need, passed on.
pub use Rattle.many_files.proofs.rewriting.MemberLemmas
pub use Rattle.many_files.proofs.rewriting.WayLemmas
pub use Rattle.many_files.proofs.rewriting.FileLemmas
pub use Rattle.many_files.proofs.rewriting.TurnLemmas
pub use Rattle.many_files.proofs.rewriting.JobLemmas
pub use Rattle.many_files.proofs.rewriting.CutLemmas
pub use Rattle.many_files.proofs.rewriting.KeepLemmas
pub use Rattle.many_files.proofs.rewriting.ListedLemmas
pub use Rattle.many_files.proofs.rewriting.MemoryLemmas
