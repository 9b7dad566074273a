pub use Rattle.grep_matcher.proofs.laws.CoverLemmas
pub mod GatheredLemmas
pub use Rattle.grep_matcher.proofs.references.ReferenceLemmas
pub use Rattle.grep_matcher.proofs.laws.ReplacedLemmas
