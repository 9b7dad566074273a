use Rattle.std.proofs.Common.{◌≡◌, take}
use Rattle.mem_io.specs.Log.{outcomes_after}
use Rattle.mem_io.specs.OutcomeTable.{outcomes_of}
use Rattle.mem_io.proofs.outcome_table.OutcomeTable.after.Given as goal

-- the outcomes after the changes so far
abbrev pub invariant-loop-change : goal.invariant-loop-change
invariant-loop-change l = outcomes_of l.table ≡ outcomes_after l.log.first_dev (take l.change-index l.change-items)
