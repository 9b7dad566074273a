use Rattle.std.proofs.Common.{◌≡◌, ◌-◌, ◌≤◌, length, drop}
use Rattle.pattern_syntax.specs.Runs.{takes, behind}
use Rattle.pattern_syntax.proofs.runs.behind.Given as goal

abbrev pub decreases-loop-place : goal.decreases-loop-place
decreases-loop-place l = length l.text - l.place

abbrev pub invariant-loop-place : goal.invariant-loop-place
invariant-loop-place l =
    (behind (takes l.kind) (drop l.place l.text) ≡ behind (takes l.kind) (drop l.at l.text)) × (l.at ≤ l.place) × (l.place ≤ length l.text)
