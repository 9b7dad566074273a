use Rattle.glob_match.proofs.onward.BackwardLemmas.{OneBackSoFar}
use Rattle.glob_match.proofs.onward.before_one.Given as goal

abbrev pub invariant-loop-place : goal.invariant-loop-place
invariant-loop-place l = OneBackSoFar l.single l.path l.fn.places l.places l.place l.after
