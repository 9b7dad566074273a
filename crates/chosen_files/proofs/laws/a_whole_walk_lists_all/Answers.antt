use Rattle.chosen_files.proofs.laws.ListedLemmas.{whole_listed}
use Rattle.chosen_files.proofs.laws.a_whole_walk_lists_all.Goals as goal

pub returns : goal.returns
returns c = whole_listed
