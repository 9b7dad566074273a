use Rattle.std.proofs.Common.{◌-◌, length}
use Rattle.pattern_core.specs.Parsing.{IsBegun}
use Rattle.pattern_core.proofs.parsing.reading.read.Given as goal

abbrev pub invariant-loop-state : goal.invariant-loop-state
invariant-loop-state l = IsBegun l.limit l.text l.fn.flags l.state

abbrev pub decreases-loop-state : goal.decreases-loop-state
decreases-loop-state l = length l.text - l.state.at
