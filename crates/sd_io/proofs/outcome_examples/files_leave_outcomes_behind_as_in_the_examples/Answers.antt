use Rattle.std.proofs.Common.{refl}
use Rattle.sd_io.proofs.outcome_examples.files_leave_outcomes_behind_as_in_the_examples.Goals as goal

pub returns-clause-removed : goal.returns-clause-removed
returns-clause-removed c = refl

pub returns-clause-written_and_gone : goal.returns-clause-written_and_gone
returns-clause-written_and_gone c = refl

pub returns-clause-back : goal.returns-clause-back
returns-clause-back c = refl

pub returns-clause-gone_again : goal.returns-clause-gone_again
returns-clause-gone_again c = refl
