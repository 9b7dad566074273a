-- The lemmas that upper crates need, passed on.
pub use Rattle.file_exchange.proofs.exchanging.PlaceLemmas
pub use Rattle.file_exchange.proofs.exchanging.CauseLemmas
pub use Rattle.file_exchange.proofs.exchanging.FillingLemmas
pub use Rattle.file_exchange.proofs.laws.TurnLemmas
