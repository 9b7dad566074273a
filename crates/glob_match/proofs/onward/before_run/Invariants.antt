use Rattle.glob_match.specs.declared.piece.Piece.TheVariants.{AnyRun}
use Rattle.glob_match.proofs.onward.BackwardLemmas.{PieceBackSoFar}
use Rattle.glob_match.proofs.onward.before_run.Given as goal

abbrev pub invariant-loop-place : goal.invariant-loop-place
invariant-loop-place l = PieceBackSoFar AnyRun l.path l.fn.places l.places l.place l.after
