use Rattle.hir_program.proofs.scan.reach.ReachLemmas.{Walks, walk_weight}
use Rattle.hir_program.proofs.scan.reach.reach.Given as goal

-- where spots lead that were reached, that was reached, or is on the stack, unless the spot asks the look
abbrev pub invariant-loop-place : goal.invariant-loop-place
invariant-loop-place l = Walks l.spots l.fn.look l.from l.reached.items l.stack.items

abbrev pub decreases-loop-place : goal.decreases-loop-place
decreases-loop-place l = walk_weight l.reached.items l.stack.items
