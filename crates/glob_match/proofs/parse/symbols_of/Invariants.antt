use Rattle.glob_match.proofs.parse.ReadingLemmas.{SymbolsSoFar}
use Rattle.glob_match.proofs.parse.symbols_of.Given as goal

abbrev pub invariant-loop-c : goal.invariant-loop-c
invariant-loop-c l = SymbolsSoFar l.text l.symbols.items l.escaped l.c-index
