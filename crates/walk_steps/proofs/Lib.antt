-- The lemmas that upper crates need, passed on.
pub use Rattle.walk_steps.proofs.leave.WithinLemmas
pub use Rattle.walk_steps.proofs.next.ListedLemmas
pub use Rattle.walk_steps.proofs.next.MeetLemmas
