use Rattle.pattern_syntax.proofs.sets.CaseLemmas.{HasCased}
use Rattle.pattern_syntax.proofs.sets.cases.with_cases.Given as goal

abbrev pub invariant-loop-i : goal.invariant-loop-i
invariant-loop-i l = HasCased l.ranges.items l.own l.i
