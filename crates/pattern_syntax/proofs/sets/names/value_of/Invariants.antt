use Rattle.std.proofs.Common.{◌≡◌, length, map}
use Rattle.pattern_syntax.specs.Sets.{value_of}
use Rattle.pattern_syntax.proofs.sets.names.value_of.Given as goal

abbrev pub invariant-loop-rows : goal.invariant-loop-rows
invariant-loop-rows g l = value_of (map (λ row. (row.0.now, row.1)) l.rows) l.name ≡ value_of (map (λ row. (row.0.now, row.1)) l.initial.rows) l.name

abbrev pub decreases-loop-rows : goal.decreases-loop-rows
decreases-loop-rows g l = length l.rows
