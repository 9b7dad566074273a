use Rattle.chosen_files.proofs.laws.ChosenLemmas.{one_list_of}
use Rattle.chosen_files.proofs.laws.KeptLemmas.{one_list}
use Rattle.chosen_files.proofs.laws.one_list_of_kept_files.Goals as goal

pub returns : goal.returns
returns c = record { places = λ tree top globs rules xs ys h k. one_list_of _ xs ys h k; paths = one_list }
