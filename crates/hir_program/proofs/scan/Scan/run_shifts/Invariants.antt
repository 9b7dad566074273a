use Rattle.std.proofs.Common.{ℕ, ◌≤◌, ◌-◌, length}
use Rattle.hir_program.specs.Scan.{Looked}
use Rattle.hir_program.proofs.scan.Scan.run_shifts.Given as goal

-- so far was looked
abbrev pub invariant-loop-so_far : goal.invariant-loop-so_far
invariant-loop-so_far l = record {
  looked : (at : ℕ) → Looked l.text l.self at l.fn.begin → Looked l.text l.self at l.so_far;
  after : l.fn.begin.place ≤ l.so_far.place;
  within : l.so_far.place ≤ length l.text;
}

abbrev pub decreases-loop-so_far : goal.decreases-loop-so_far
decreases-loop-so_far l = length l.text - l.so_far.place
