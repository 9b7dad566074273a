use Rattle.std.proofs.Common.{drop, Contains}
use Rattle.grep_regex.proofs.non_matching.RemovedLemmas.{IsSameWithout}
use Rattle.grep_regex.proofs.non_matching.remove_literal.Given as goal

-- the bytes before this one are lost
abbrev pub invariant-loop-i : goal.invariant-loop-i
invariant-loop-i l = IsSameWithout l.fn.set l.set (Contains l.bytes) (Contains (drop l.i l.bytes))
