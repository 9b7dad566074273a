use Rattle.host_io.proofs.told.ToldLemmas.{within_permutation}
use Rattle.host_io.proofs.told.Told.sort.Goals as goal

pub invariant_of-self : goal.invariant_of-self
invariant_of-self c = record { within = within_permutation _ _ _ c.sort_unstable_by.ensures.permutation c.args.self.now.within }
