use Rattle.std.proofs.Common.{◌≡◌, ℕ, ◌<◌, false}
use Rattle.hir_program.specs.Entry.{goes_on_at}
use Rattle.hir_program.specs.Program.{spot_at}
use Rattle.hir_program.proofs.entry.is_behind_first.Given as goal

-- none of the spots after the first, up to here, goes on at this one
abbrev pub invariant-loop-place : goal.invariant-loop-place
invariant-loop-place l = (q : ℕ) → 0 < q → q < l.place → goes_on_at l.to (spot_at l.spots q) ≡ false
