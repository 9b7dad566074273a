use Rattle.change_phases.proofs.SettledLemmas.{renamed_settled, renamed_there, not_renamed_settled, not_renamed_there, removed_there}
use Rattle.change_phases.proofs.laws.settled_files_stay_settled.Goals as goal

pub returns-clause-renamed : goal.returns-clause-renamed
returns-clause-renamed c = renamed_settled

pub returns-clause-renamed_there : goal.returns-clause-renamed_there
returns-clause-renamed_there c = renamed_there

pub returns-clause-not_renamed : goal.returns-clause-not_renamed
returns-clause-not_renamed c = not_renamed_settled

pub returns-clause-not_renamed_there : goal.returns-clause-not_renamed_there
returns-clause-not_renamed_there c = not_renamed_there

pub returns-clause-removed : goal.returns-clause-removed
returns-clause-removed c = removed_there
