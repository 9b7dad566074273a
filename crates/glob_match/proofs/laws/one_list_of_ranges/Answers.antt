use Rattle.glob_match.proofs.laws.OneDerivationLemmas.{one_list}
use Rattle.glob_match.proofs.laws.one_list_of_ranges.Goals as goal

pub returns : goal.returns
returns c = one_list
