use Rattle.std.proofs.Common.{◌≡◌, ◌++◌, map, take, drop}
use Rattle.sd_io.specs.Outcomes.{settled}
use Rattle.mem_io.proofs.outcome.OutcomeList.settle.Given as goal

-- the outcomes so far are changed, and the others are as before
abbrev pub invariant-loop-outcome : goal.invariant-loop-outcome
invariant-loop-outcome l = l.outcome-items ≡ map (settled l.node) (take l.outcome-index l.initial.outcome-items) ++ drop l.outcome-index l.initial.outcome-items
