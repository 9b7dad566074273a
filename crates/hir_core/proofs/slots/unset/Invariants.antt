use Rattle.std.proofs.Common.{◌≡◌, take, replicate, None}
use Rattle.hir_core.proofs.slots.unset.Given as goal

-- the slots so far are unset
abbrev pub invariant-loop-span : goal.invariant-loop-span
invariant-loop-span l = take l.span-index l.span-items ≡ replicate l.span-index None
