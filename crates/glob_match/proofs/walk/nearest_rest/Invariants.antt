use Rattle.glob_match.specs.declared.piece.Piece.TheVariants.{AnyRest}
use Rattle.glob_match.proofs.walk.NearestLemmas.{MayTake, NoneBefore}
use Rattle.glob_match.proofs.walk.nearest_rest.Given as goal

abbrev pub invariant-loop-to : goal.invariant-loop-to
invariant-loop-to l = NoneBefore (MayTake AnyRest l.path l.next l.from) l.to
