use Rattle.std.proofs.Common.{drop}
use Rattle.grep_regex.proofs.non_matching.RemovedLemmas.{IsSameWithout}
use Rattle.grep_regex.proofs.non_matching.remove_bytes.Given as goal
use Rattle.hir_tree.specs.Ranges.{Holds}

-- the ranges before this one are lost
abbrev pub invariant-loop-i : goal.invariant-loop-i
invariant-loop-i l = IsSameWithout l.fn.set l.set (Holds l.ranges) (Holds (drop l.i l.ranges))
