use Rattle.glob_match.specs.declared.piece.Piece.TheVariants.{AnyRest}
use Rattle.sd_base.specs.Steps.{IsTicked}
use Rattle.glob_match.proofs.places.PlacesLemmas.{StarSoFar}
use Rattle.glob_match.proofs.places.after_rest.Given as goal

abbrev pub invariant-loop-to : goal.invariant-loop-to
invariant-loop-to g l = record {
  places : StarSoFar AnyRest l.fn.path l.fn.places l.places l.to-index l.reached;
  ticks : IsTicked g.L.Ledger.noted l.to-index l.fn.steps l.steps;
}
