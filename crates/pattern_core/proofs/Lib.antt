pub mod EscapeLemmas
pub use Rattle.pattern_core.proofs.parsing.NameLemmas
