use Rattle.std.proofs.Common.{◌≡◌, map, take, chars}
use Rattle.glob_match.specs.Captures.{byte_range}
use Rattle.glob_match.proofs.captures.byte_ranges.Given as goal

abbrev pub invariant-loop-capture : goal.invariant-loop-capture
invariant-loop-capture l = l.ranges.items ≡ map (byte_range (chars l.path)) (take l.capture-index l.captures)
