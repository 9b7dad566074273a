use Rattle.std.proofs.Common.{◌≡◌, ◌++◌, length}
use Rattle.glob_match.specs.Reading.{ranges_of}
use Rattle.glob_match.proofs.parse.ranges_of.Given as goal

abbrev pub invariant-loop-range : goal.invariant-loop-range
invariant-loop-range l = ranges_of l.body ≡ l.ranges.items ++ ranges_of l.rest

abbrev pub decreases-loop-range : goal.decreases-loop-range
decreases-loop-range l = length l.rest
