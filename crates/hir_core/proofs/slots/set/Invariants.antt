use Rattle.std.proofs.Common.{◌≡◌, length, map, take}
use Rattle.hir_core.specs.Found.{span_of}
use Rattle.hir_core.proofs.slots.set.Given as goal

-- the slots so far are set
abbrev pub invariant-loop-i : goal.invariant-loop-i
invariant-loop-i l = record {
  so_far : take l.i l.spans.items ≡ map span_of (take l.i l.groups);
  as_many : length l.spans.items ≡ length l.groups;
}
