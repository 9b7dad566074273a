use Rattle.std.proofs.Common.{drop}
use Rattle.glob_match.specs.Takes.{IsInRanges}
use Rattle.glob_match.proofs.piece.lies_in.Given as goal

abbrev pub invariant-loop-range : goal.invariant-loop-range
invariant-loop-range l = IsInRanges l.ranges l.fn.c → IsInRanges (drop l.range-index l.ranges) l.fn.c
