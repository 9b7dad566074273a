use Rattle.std.proofs.Common.{◌-◌, ◌≤◌, length, drop, vec_len}
use Rattle.pattern_syntax.specs.Escapes.{Spells}
use Rattle.pattern_syntax.proofs.spelling.read_spaced.Given as goal

abbrev pub decreases-loop-flags : goal.decreases-loop-flags
decreases-loop-flags l = l.count - vec_len l.read

abbrev pub invariant-loop-flags : goal.invariant-loop-flags
invariant-loop-flags l =
    Spells l.flags l.read.items (drop l.at l.text) (drop l.place l.text) × (l.place ≤ length l.text) × (vec_len l.read ≤ l.count)
