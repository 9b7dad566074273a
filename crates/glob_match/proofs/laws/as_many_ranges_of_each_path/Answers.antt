use Rattle.glob_match.proofs.laws.OneDerivationLemmas.{as_many}
use Rattle.glob_match.proofs.laws.as_many_ranges_of_each_path.Goals as goal

pub returns : goal.returns
returns c = as_many
