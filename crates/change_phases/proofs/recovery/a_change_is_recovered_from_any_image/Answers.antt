use Rattle.change_phases.proofs.RecoverLemmas.{between_folder, whole_now, underway}
use Rattle.change_phases.proofs.recovery.a_change_is_recovered_from_any_image.Goals as goal

pub returns-clause-between : goal.returns-clause-between
returns-clause-between c = λ work old new path is holds synced all. between_folder work is old new path holds synced all

pub returns-clause-whole : goal.returns-clause-whole
returns-clause-whole c = λ work old is holds all none. whole_now work old holds all none

pub returns-clause-underway : goal.returns-clause-underway
returns-clause-underway c = λ work old new path is holds synced root all some settled. underway work is old new path holds synced all some root settled
