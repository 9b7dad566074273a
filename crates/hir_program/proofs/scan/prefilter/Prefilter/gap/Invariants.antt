use Rattle.std.proofs.Common.{◌-◌, ◌≤◌}
use Rattle.hir_program.proofs.scan.prefilter.Prefilter.gap.Given as goal

-- between the two places
abbrev pub invariant-loop-place : goal.invariant-loop-place
invariant-loop-place l = record { after : l.at ≤ l.place; before : l.place ≤ l.until }

abbrev pub decreases-loop-place : goal.decreases-loop-place
decreases-loop-place l = l.place - l.at
