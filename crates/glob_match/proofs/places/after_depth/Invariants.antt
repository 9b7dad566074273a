use Rattle.glob_match.specs.declared.piece.Piece.TheVariants.{AnyDepth}
use Rattle.sd_base.specs.Steps.{IsTicked}
use Rattle.glob_match.proofs.places.PlacesLemmas.{StarSoFar}
use Rattle.glob_match.proofs.places.after_depth.Given as goal

abbrev pub invariant-loop-place : goal.invariant-loop-place
invariant-loop-place g l = record {
  places : StarSoFar AnyDepth l.path l.fn.places l.places l.place l.reached;
  ticks : IsTicked g.L.Ledger.noted l.place l.fn.steps l.steps;
}
