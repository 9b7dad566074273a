use Rattle.std.proofs.Common.{◌≡◌, length, drop, not, if◌then◌else◌}
use Rattle.glob_match.specs.Reading.{is_odd, negations}
use Rattle.glob_match.proofs.parse.after_signs.Given as goal

abbrev pub invariant-loop-rest : goal.invariant-loop-rest
invariant-loop-rest l = (drop (negations l.glob) l.glob ≡ drop (negations l.rest) l.rest) × (is_odd (negations l.glob) ≡ (if l.negated then not (is_odd (negations l.rest)) else is_odd (negations l.rest)))

abbrev pub decreases-loop-rest : goal.decreases-loop-rest
decreases-loop-rest l = length l.rest
