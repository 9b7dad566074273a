use Rattle.std.proofs.Common.{◌≡◌, take}
use Rattle.mem_io.proofs.outcome.OutcomeList.try_clone.Given as goal

-- the copy has the outcomes so far
abbrev pub invariant-loop-outcome : goal.invariant-loop-outcome
invariant-loop-outcome l = l.outcomes.items ≡ take l.outcome-index l.outcome-items
