use Rattle.std.proofs.Common.{◌≡◌, ◌*◌, ◌+◌, length}
use Rattle.glob_match.specs.Reading.{star_tails}
use Rattle.glob_match.proofs.parse.star_tails.Given as goal

abbrev pub invariant-loop-left : goal.invariant-loop-left
invariant-loop-left l = (star_tails l.text ≡ l.tails + star_tails l.rest) × (3 * l.tails + length l.rest ≡ length l.text)

abbrev pub decreases-loop-left : goal.decreases-loop-left
decreases-loop-left l = length l.rest
