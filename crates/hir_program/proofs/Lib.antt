pub use Rattle.hir_program.proofs.entry.EntryLemmas
pub mod PlacedLemmas
pub mod ProgramLemmas
pub use Rattle.hir_program.proofs.scan.ScanLemmas
