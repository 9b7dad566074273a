pub use Rattle.sd_base.proofs.laws.StepsLemmas
