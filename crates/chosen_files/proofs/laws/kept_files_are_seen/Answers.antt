use Rattle.chosen_files.proofs.laws.KeptLemmas.{kept_seen}
use Rattle.chosen_files.proofs.laws.kept_files_are_seen.Goals as goal

pub returns : goal.returns
returns c = kept_seen
