use Rattle.std.proofs.Common.{◌≡◌, ◌-◌, ◌≤◌, ◌∷◌, false, length, drop}
use Rattle.pattern_syntax.specs.Flags.{has}
use Rattle.pattern_syntax.specs.Escapes.{Spells}
use Rattle.pattern_syntax.proofs.spelling.read_braced.Given as goal

abbrev pub decreases-loop-c : goal.decreases-loop-c
decreases-loop-c l = length l.text - l.place

abbrev pub invariant-loop-c : goal.invariant-loop-c
invariant-loop-c l =
    Spells l.flags (123 ∷ l.read.items) (drop l.at l.text) (drop l.place l.text) × (l.place ≤ length l.text) × (has 125 l.read.items ≡ false)
