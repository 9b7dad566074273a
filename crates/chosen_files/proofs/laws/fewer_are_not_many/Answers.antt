use Rattle.chosen_files.proofs.laws.ChosenLemmas.{fewer_not_many}
use Rattle.chosen_files.proofs.laws.KeptLemmas.{fewer_seen_not_many}
use Rattle.chosen_files.proofs.laws.fewer_are_not_many.Goals as goal

pub returns-clause-below : goal.returns-clause-below
returns-clause-below c = fewer_not_many

pub returns-clause-seen : goal.returns-clause-seen
returns-clause-seen c = fewer_seen_not_many
