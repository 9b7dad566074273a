use Rattle.change_phases.proofs.StepLemmas.{removing_of, removed, cleared_of}
use Rattle.change_phases.proofs.phases.the_journal_is_removed.Goals as goal

pub returns-clause-may_begin : goal.returns-clause-may_begin
returns-clause-may_begin c = λ work lines old is is_for is_in all. removing_of work is lines is_for old is_in all

pub returns-clause-done : goal.returns-clause-done
returns-clause-done c = λ work lines old new path is is_for is_in gone at. removed work is lines is_for old new path is_in gone at

pub returns-clause-gone_for_good : goal.returns-clause-gone_for_good
returns-clause-gone_for_good c = λ work lines old new path is is_for holds is_in synced root none.
    cleared_of work is lines is_for old new path holds is_in synced root none
