use Rattle.std.proofs.Common.{take}
use Rattle.grep_regex.specs.ReadSoFar.{AreRead}
use Rattle.grep_regex.proofs.reading.read_each.Given as goal

abbrev pub invariant-loop-i : goal.invariant-loop-i
invariant-loop-i l = AreRead l.options l.folded (take l.i l.patterns) l.read
