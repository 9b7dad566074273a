use Rattle.std.proofs.Common.{◌≡◌, take, replicate, None}
use Rattle.hir_core.proofs.trail.unset.Given as goal

-- the groups so far are unset
abbrev pub invariant-loop-group : goal.invariant-loop-group
invariant-loop-group l = take l.group-index l.group-items ≡ replicate l.group-index None
