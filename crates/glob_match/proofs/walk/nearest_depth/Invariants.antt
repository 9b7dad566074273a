use Rattle.glob_match.specs.declared.piece.Piece.TheVariants.{AnyDepth}
use Rattle.glob_match.proofs.walk.NearestLemmas.{MayTake, NoneBefore}
use Rattle.glob_match.proofs.walk.nearest_depth.Given as goal

abbrev pub invariant-loop-to : goal.invariant-loop-to
invariant-loop-to l = NoneBefore (MayTake AnyDepth l.path l.next l.from) l.to
