use Rattle.std.proofs.Common.{◌-◌, length}
use Rattle.pattern_syntax.specs.ClassReading.{Begun}
use Rattle.pattern_syntax.proofs.classes.read_class.Given as goal

abbrev pub invariant-loop-reading : goal.invariant-loop-reading
invariant-loop-reading l = Begun l.flags l.text l.at l.reading

abbrev pub decreases-loop-reading : goal.decreases-loop-reading
decreases-loop-reading l = length l.text - l.reading.at
