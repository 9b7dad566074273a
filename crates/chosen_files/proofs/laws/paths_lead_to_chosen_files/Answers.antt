use Rattle.chosen_files.proofs.laws.RootLemmas.{chosen_lead}
use Rattle.chosen_files.proofs.laws.paths_lead_to_chosen_files.Goals as goal

pub returns : goal.returns
returns c = λ tree root globs paths is listed. chosen_lead tree is root globs paths listed
