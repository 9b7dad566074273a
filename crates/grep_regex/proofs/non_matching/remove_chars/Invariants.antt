use Rattle.std.proofs.Common.{drop}
use Rattle.grep_regex.specs.NonMatching.{Takes}
use Rattle.grep_regex.proofs.non_matching.RemovedLemmas.{IsSameWithout}
use Rattle.grep_regex.proofs.non_matching.remove_chars.Given as goal
use Rattle.hir_tree.specs.Tree.{class_chars}

-- the ranges before this one are lost
abbrev pub invariant-loop-i : goal.invariant-loop-i
invariant-loop-i l = IsSameWithout l.fn.set l.set (λ b. Takes b (class_chars l.ranges)) (λ b. Takes b (class_chars (drop l.i l.ranges)))
