use Rattle.change_phases.proofs.StepLemmas.{created_any, written_any, synced_settled}
use Rattle.change_phases.proofs.laws.a_file_is_settled_by_a_sync.Goals as goal

pub returns-clause-created : goal.returns-clause-created
returns-clause-created c = λ old new path like made. created_any old new path like made

pub returns-clause-written : goal.returns-clause-written
returns-clause-written c = λ old new path bytes wrote are. written_any old new path bytes wrote are

pub returns-clause-synced : goal.returns-clause-synced
returns-clause-synced c = λ old new path synced are. synced_settled old new path synced are
