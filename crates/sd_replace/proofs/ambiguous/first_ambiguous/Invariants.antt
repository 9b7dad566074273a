use Rattle.std.proofs.Common.{◌≡◌, ◌-◌, length, drop}
use Rattle.sd_replace.specs.Ambiguous.{bare_after}
use Rattle.sd_replace.proofs.ambiguous.AmbiguousLemmas.{found}
use Rattle.sd_replace.proofs.ambiguous.first_ambiguous.Given as goal

-- the first ambiguous reference of all is the first of what is left
abbrev pub invariant-loop-at : goal.invariant-loop-at
invariant-loop-at l = found (bare_after 0 l.at (drop l.at l.text)) ≡ found (bare_after 0 0 l.text)

abbrev pub decreases-loop-at : goal.decreases-loop-at
decreases-loop-at l = length l.text - l.at
