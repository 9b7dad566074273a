use Rattle.std.proofs.Common.{◌≡◌, ◌+◌, ◌-◌, ◌^◌, ◌≤◌, min, map, drop}
use Rattle.std.specs.Prelude.{sum}
use Rattle.hir_tree.specs.Spots.{spots_of}
use Rattle.hir_tree.proofs.count.+spots.Given as goal

abbrev pub invariant-total_spots-loop-part : goal.invariant-total_spots-loop-part
invariant-total_spots-loop-part l =
    (min (l.total + sum (map spots_of (drop l.part-index l.parts))) (2 ^ 128 - 1) ≡ min (sum (map spots_of l.parts)) (2 ^ 128 - 1))
    × (l.total ≤ 2 ^ 128 - 1)
