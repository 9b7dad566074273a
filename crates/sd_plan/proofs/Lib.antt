-- The lemmas that upper crates need, passed on.
pub use Rattle.sd_plan.proofs.fields.CutLemmas
pub use Rattle.sd_plan.proofs.fields.FieldLemmas
pub use Rattle.sd_plan.proofs.fields.FoundLemmas
pub use Rattle.sd_plan.proofs.escaping.EscapeLemmas
pub use Rattle.sd_plan.proofs.laws.Utf8Lemmas
