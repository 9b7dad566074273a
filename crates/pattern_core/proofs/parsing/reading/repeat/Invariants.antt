use Rattle.std.proofs.Common.{◌-◌, length}
use Rattle.pattern_core.specs.Parsing.{Repeats}
use Rattle.pattern_core.proofs.parsing.reading.repeat.Given as goal

abbrev pub invariant-loop-piece : goal.invariant-loop-piece
invariant-loop-piece l = Repeats l.limit l.text l.flags l.fn.piece l.fn.at l.piece l.at

abbrev pub decreases-loop-piece : goal.decreases-loop-piece
decreases-loop-piece l = length l.text - l.at
