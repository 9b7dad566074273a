use Rattle.std.proofs.Common.{refl}
use Rattle.change_phases.proofs.StepLemmas.{naming_of, named_done, named_not, placing_of, preparing_of}
use Rattle.change_phases.proofs.phases.the_journal_gets_its_name.Goals as goal

pub returns-clause-may_begin : goal.returns-clause-may_begin
returns-clause-may_begin c = λ work lines old is is_for is_in stages. naming_of work is lines is_for old is_in stages

pub returns-clause-done : goal.returns-clause-done
returns-clause-done c = λ work lines old new mode from to is is_for is_in moved at aside apart written.
    named_done work is lines is_for old new mode moved.source is_in aside apart written from to moved refl at

pub returns-clause-failed : goal.returns-clause-failed
returns-clause-failed c = λ work lines old new mode from to is is_for is_in kept at aside apart written.
    named_not work is lines is_for old new mode kept.source is_in aside apart written from to kept refl at

pub returns-clause-there_for_good : goal.returns-clause-there_for_good
returns-clause-there_for_good c = λ work lines old new mode path is is_for holds is_in synced root stands settled.
    placing_of work is lines is_for old new path mode holds is_in synced root stands settled

pub returns-clause-gone_for_good : goal.returns-clause-gone_for_good
returns-clause-gone_for_good c = λ work lines old new path is is_for holds is_in synced root none.
    preparing_of work is lines is_for old new path holds is_in synced root none
