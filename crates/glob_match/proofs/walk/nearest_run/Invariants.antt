use Rattle.glob_match.specs.declared.piece.Piece.TheVariants.{AnyRun}
use Rattle.glob_match.proofs.walk.NearestLemmas.{MayTake, NoneBefore}
use Rattle.glob_match.proofs.walk.nearest_run.Given as goal

abbrev pub invariant-loop-to : goal.invariant-loop-to
invariant-loop-to l = NoneBefore (MayTake AnyRun l.path l.next l.from) l.to
