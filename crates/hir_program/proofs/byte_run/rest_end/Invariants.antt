use Rattle.std.proofs.Common.{◌-◌, ◌<◌, ◌≤◌, ℕ, length}
use Rattle.hir_program.specs.ByteRuns.{Holds}
use Rattle.hir_program.proofs.byte_run.rest_end.Given as goal

-- the table holds for each byte so far
abbrev pub invariant-loop-at : goal.invariant-loop-at
invariant-loop-at l = record {
  over : (q : ℕ) → l.from ≤ q → q < l.at → Holds l.table l.text q;
  forward : l.from ≤ l.at;
  within : l.at ≤ length l.text;
}

abbrev pub decreases-loop-at : goal.decreases-loop-at
decreases-loop-at l = length l.text - l.at
