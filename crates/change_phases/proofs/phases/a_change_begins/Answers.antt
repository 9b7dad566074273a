use Rattle.change_phases.proofs.SettledLemmas.{begins_preparing, begins_settled}
use Rattle.change_phases.proofs.phases.a_change_begins.Goals as goal

pub returns-clause-preparing : goal.returns-clause-preparing
returns-clause-preparing c = λ work lines old is same only. begins_preparing work is old same only lines

pub returns-clause-settled : goal.returns-clause-settled
returns-clause-settled c = λ work old is same only. begins_settled work is old same only
