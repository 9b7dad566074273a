use Rattle.std.proofs.Common.{◌≡◌, ◌-◌, ◌≤◌, vec_len, drop}
use Rattle.hir_tree.proofs.ranges.RangesLemmas.{absorbed}
use Rattle.hir_tree.proofs.ranges.unite.Given as goal

abbrev pub decreases-loop-last : goal.decreases-loop-last
decreases-loop-last l = vec_len l.ranges - l.last

abbrev pub invariant-loop-last : goal.invariant-loop-last
invariant-loop-last l =
    (absorbed l.low l.high (drop l.last l.ranges.items) ≡ absorbed l.start l.end (drop l.first l.ranges.items))
    × (l.first ≤ l.last) × (l.last ≤ vec_len l.ranges)
