use Rattle.change_phases.proofs.StepLemmas.{only_settled, only_gone, no_more}
use Rattle.change_phases.proofs.laws.a_folder_is_put_on_the_medium.Goals as goal

pub returns-clause-settled : goal.returns-clause-settled
returns-clause-settled c = only_settled

pub returns-clause-gone : goal.returns-clause-gone
returns-clause-gone c = only_gone

pub returns-clause-no_more : goal.returns-clause-no_more
returns-clause-no_more c = no_more
