use Rattle.glob_match.specs.declared.piece.Piece.TheVariants.{AnyDepth}
use Rattle.glob_match.proofs.onward.BackwardLemmas.{PieceBackSoFar}
use Rattle.glob_match.proofs.onward.before_depth.Given as goal

abbrev pub invariant-loop-place : goal.invariant-loop-place
invariant-loop-place l = PieceBackSoFar AnyDepth l.path l.fn.places l.places l.place l.after
