use Rattle.std.proofs.Common.{◌≡◌, ◌++◌, map, take, drop}
use Rattle.mem_io.specs.Log.{outcome_on}
use Rattle.mem_io.proofs.outcome.OutcomeList.put_dev.Given as goal

-- the outcomes so far are changed, and the others are as before
abbrev pub invariant-loop-outcome : goal.invariant-loop-outcome
invariant-loop-outcome l = l.outcome-items ≡ map (outcome_on l.dev) (take l.outcome-index l.initial.outcome-items) ++ drop l.outcome-index l.initial.outcome-items
