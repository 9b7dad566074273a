use Rattle.std.proofs.Common.{ℕ, List, map, ◌++◌}
use Rattle.grep_regex.specs.ReadSoFar.{AreKnown}
use Rattle.grep_regex.proofs.reading.add_names.Given as goal

abbrev pub invariant-loop-named : goal.invariant-loop-named
invariant-loop-named l = (before : List (List ℕ)) → AreKnown l.fn.known before → AreKnown l.known (before ++ map (λ named. named.name) l.yielded)
