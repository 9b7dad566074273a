use Rattle.glob_match.proofs.validity.ValidityLemmas.{CharactersSoFar}
use Rattle.glob_match.proofs.validity.glob_valid.Given as goal

abbrev pub invariant-loop-c : goal.invariant-loop-c
invariant-loop-c l = CharactersSoFar l.yielded l.cursor
