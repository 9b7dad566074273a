use Rattle.walk_rest.proofs.existence.ExistenceLemmas.{chain_bound}
use Rattle.walk_rest.proofs.existence.chains_are_bounded.Goals as goal

pub returns : goal.returns
returns c = chain_bound
