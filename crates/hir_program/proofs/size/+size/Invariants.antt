use Rattle.std.proofs.Common.{◌≡◌, ◌+◌, ◌-◌, ◌^◌, ◌≤◌, min, map, drop}
use Rattle.hir_tree.specs.Cores.{core_of}
use Rattle.hir_program.specs.Laid.{total_numbers}
use Rattle.hir_program.proofs.size.+size.Given as goal

abbrev pub invariant-total_size-loop-part : goal.invariant-total_size-loop-part
invariant-total_size-loop-part l =
    (min (l.total + total_numbers (map core_of (drop l.part-index l.parts))) (2 ^ 64 - 1) ≡ min (total_numbers (map core_of l.parts)) (2 ^ 64 - 1))
    × (l.total ≤ 2 ^ 64 - 1)
