use Rattle.chosen_files.proofs.laws.ChosenLemmas.{one_chosen, one_list_of_paths}
use Rattle.chosen_files.proofs.laws.one_list_of_chosen_files.Goals as goal

pub returns-clause-places : goal.returns-clause-places
returns-clause-places c = one_chosen

pub returns-clause-paths : goal.returns-clause-paths
returns-clause-paths c = one_list_of_paths
