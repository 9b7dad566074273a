use Rattle.std.proofs.Common.{◌≡◌, true, take}
use Rattle.pattern_syntax.specs.OpeningReaders.{are_distinct}
use Rattle.pattern_syntax.proofs.flag_lists.are_distinct.Given as goal

abbrev pub invariant-loop-i : goal.invariant-loop-i
invariant-loop-i l = are_distinct (take l.i l.characters) ≡ true
