use Rattle.chosen_files.proofs.laws.WalkedLemmas.{picked_kept}
use Rattle.chosen_files.proofs.laws.picked_files_are_kept.Goals as goal

pub returns : goal.returns
returns c = picked_kept
