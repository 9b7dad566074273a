use Rattle.mem_io.proofs.built_laws.BuiltLemmas.{first_alone, built_alone, device_alone, same_alone, alone_on_medium, alone_settled}
use Rattle.mem_io.proofs.built_laws.disks_as_built_have_one_outcome_a_place.Goals as goal

pub returns-clause-first : goal.returns-clause-first
returns-clause-first c = first_alone

pub returns-clause-built : goal.returns-clause-built
returns-clause-built c = built_alone

pub returns-clause-device : goal.returns-clause-device
returns-clause-device c = device_alone

pub returns-clause-same : goal.returns-clause-same
returns-clause-same c = same_alone

pub returns-clause-on_medium : goal.returns-clause-on_medium
returns-clause-on_medium c = alone_on_medium

pub returns-clause-settled : goal.returns-clause-settled
returns-clause-settled c = alone_settled
