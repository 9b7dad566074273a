use Rattle.chosen_files.proofs.laws.WalkedLemmas.{all_seen}
use Rattle.chosen_files.proofs.laws.a_walk_lists_all_that_is_seen.Goals as goal

pub returns : goal.returns
returns c = all_seen
