use Rattle.sd_base.specs.Steps.{IsTicked}
use Rattle.glob_match.proofs.places.PlacesLemmas.{IsTurned, HoldsOneOf}
use Rattle.glob_match.proofs.braces.add.Given as goal

abbrev pub invariant-loop-place : goal.invariant-loop-place
invariant-loop-place g l = record {
  places : IsTurned (HoldsOneOf l.fn.places l.others) l.fn.places l.places l.place;
  ticks : IsTicked g.L.Ledger.noted l.place l.fn.steps l.steps;
}
