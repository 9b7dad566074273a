use Rattle.std.proofs.Common.{map, drop}
use Rattle.grep_regex.specs.NonMatching.{OneTakes}
use Rattle.grep_regex.proofs.non_matching.RemovedLemmas.{IsSameWithout}
use Rattle.grep_regex.proofs.non_matching.+taken.Given as goal
use Rattle.hir_tree.specs.Tree.{tree_of, trees}

-- what the parts before this one take is lost
abbrev pub invariant-remove_taken_by_parts-loop-part :
    goal.invariant-remove_taken_by_parts-loop-part
invariant-remove_taken_by_parts-loop-part l =
    IsSameWithout l.fn.set l.set (λ b. OneTakes b (trees (map tree_of l.parts))) (λ b. OneTakes b (trees (map tree_of (drop l.part-index l.parts))))
