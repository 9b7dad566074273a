use Rattle.change_phases.proofs.LineLemmas.{listed}
use Rattle.change_phases.proofs.phases.lines_of_files_are_a_journal.Goals as goal

pub returns : goal.returns
returns c = listed
