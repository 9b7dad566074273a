use Rattle.std.proofs.Common.{◌≡◌, ◌-◌, ◌≤◌, length, drop}
use Rattle.pattern_syntax.specs.ClassReading.{after_letters}
use Rattle.pattern_syntax.proofs.classes.names.behind_letters.Given as goal

abbrev pub invariant-loop-place : goal.invariant-loop-place
invariant-loop-place l = (after_letters (drop l.place l.text) ≡ after_letters (drop l.at l.text)) × (l.at ≤ l.place) × (l.place ≤ length l.text)

abbrev pub decreases-loop-place : goal.decreases-loop-place
decreases-loop-place l = length l.text - l.place
