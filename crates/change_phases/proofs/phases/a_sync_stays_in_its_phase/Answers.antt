use Rattle.change_phases.proofs.StepLemmas.{passes_folder}
use Rattle.change_phases.proofs.phases.a_sync_stays_in_its_phase.Goals as goal

pub returns : goal.returns
returns c = λ phase work lines old new path holds is synced. passes_folder phase work lines old new is holds path synced
