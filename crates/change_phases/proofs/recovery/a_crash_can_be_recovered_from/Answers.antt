use Rattle.change_phases.proofs.PhaseLemmas.{between_image}
use Rattle.change_phases.proofs.AfterLemmas.{recoverable_after, recoverable_now}
use Rattle.change_phases.proofs.recovery.a_crash_can_be_recovered_from.Goals as goal

pub returns-clause-crash : goal.returns-clause-crash
returns-clause-crash c = λ work old new after image leaves may is. recoverable_after work image after is (between_image work old new leaves image may)

pub returns-clause-refusal : goal.returns-clause-refusal
returns-clause-refusal c = recoverable_now
