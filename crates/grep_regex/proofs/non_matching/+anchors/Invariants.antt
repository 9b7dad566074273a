use Rattle.std.proofs.Common.{◌≡◌, map, drop}
use Rattle.grep_regex.specs.Anchors.{includes}
use Rattle.grep_regex.specs.NonMatching.{one_has_look}
use Rattle.grep_regex.proofs.non_matching.+anchors.Given as goal
use Rattle.hir_tree.specs.Tree.{tree_of, trees}

-- the parts before this one have none
abbrev pub invariant-one_has_anchor-loop-part : goal.invariant-one_has_anchor-loop-part
invariant-one_has_anchor-loop-part l =
    one_has_look (includes l.anchors) (trees (map tree_of (drop l.part-index l.parts))) ≡ one_has_look (includes l.anchors) (trees (map tree_of l.parts))
