use Rattle.change_phases.proofs.WrongLemmas.{half_is_not, missing_is_not, other_stage_is_not, other_file_is_not, other_mode_is_not, another_is_not}
use Rattle.change_phases.proofs.examples.wrong_trees_are_not_between.Goals as goal

pub returns-clause-half_without_journal : goal.returns-clause-half_without_journal
returns-clause-half_without_journal c = half_is_not

pub returns-clause-stage_missing : goal.returns-clause-stage_missing
returns-clause-stage_missing c = missing_is_not

pub returns-clause-other_stage : goal.returns-clause-other_stage
returns-clause-other_stage c = other_stage_is_not

pub returns-clause-other_file : goal.returns-clause-other_file
returns-clause-other_file c = other_file_is_not

pub returns-clause-other_mode : goal.returns-clause-other_mode
returns-clause-other_mode c = other_mode_is_not

pub returns-clause-another_file : goal.returns-clause-another_file
returns-clause-another_file c = another_is_not
