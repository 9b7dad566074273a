use Rattle.std.proofs.Common.{length}
use Rattle.sd_plan.proofs.reading.TextLemmas.{IsReadTo}
use Rattle.sd_plan.proofs.reading.read_plan.Given as goal

abbrev pub invariant-loop-line : goal.invariant-loop-line
invariant-loop-line l = IsReadTo l.text l.plan l.rest

abbrev pub decreases-loop-line : goal.decreases-loop-line
decreases-loop-line l = length l.rest
