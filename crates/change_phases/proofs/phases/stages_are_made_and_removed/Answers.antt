use Rattle.change_phases.proofs.WorkLemmas.{open_preparing, open_cleared, open_aside, free_was_free}
use Rattle.change_phases.proofs.StepLemmas.{passes_open}
use Rattle.change_phases.proofs.phases.stages_are_made_and_removed.Goals as goal

pub returns-clause-preparing : goal.returns-clause-preparing
returns-clause-preparing c = λ work lines q is a. open_preparing work is lines q a

pub returns-clause-cleared : goal.returns-clause-cleared
returns-clause-cleared c = λ work lines q is a. open_cleared work is lines q a

pub returns-clause-beside : goal.returns-clause-beside
returns-clause-beside c = λ phase work lines q is a apart. open_aside work is phase lines q a apart

pub returns-clause-creates : goal.returns-clause-creates
returns-clause-creates c = λ phase work lines old new path like is made anything. passes_open phase work lines old new is made.place _ made.advances anything

pub returns-clause-writes : goal.returns-clause-writes
returns-clause-writes c = λ phase work lines old new path bytes is wrote anything. passes_open phase work lines old new is wrote.place _ wrote.advances anything

pub returns-clause-syncs : goal.returns-clause-syncs
returns-clause-syncs c = λ phase work lines old new path is synced anything. passes_open phase work lines old new is synced.place _ synced.advances anything

pub returns-clause-removes : goal.returns-clause-removes
returns-clause-removes c = λ phase work lines old new path is gone anything. passes_open phase work lines old new is gone.place _ gone.advances anything

pub returns-clause-were_free : goal.returns-clause-were_free
returns-clause-were_free c = λ phase work lines old folder q is holds is_in of free. free_was_free work is phase lines old holds is_in folder of q free
