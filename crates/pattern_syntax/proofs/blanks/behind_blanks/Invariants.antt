use Rattle.std.proofs.Common.{◌≡◌, ◌-◌, ◌≤◌, length, drop}
use Rattle.pattern_syntax.specs.Flags.{passed}
use Rattle.pattern_syntax.proofs.BlanksLemmas.{left_of}
use Rattle.pattern_syntax.proofs.blanks.behind_blanks.Given as goal

abbrev pub decreases-loop-place : goal.decreases-loop-place
decreases-loop-place l = length l.text - l.place

abbrev pub invariant-loop-place : goal.invariant-loop-place
invariant-loop-place l = (left_of l.in_comment (drop l.place l.text) ≡ passed (drop l.at l.text)) × (l.place ≤ length l.text)
