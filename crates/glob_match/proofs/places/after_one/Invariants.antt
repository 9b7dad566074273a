use Rattle.sd_base.specs.Steps.{IsTicked}
use Rattle.glob_match.proofs.places.PlacesLemmas.{OneSoFar}
use Rattle.glob_match.proofs.places.after_one.Given as goal

abbrev pub invariant-loop-place : goal.invariant-loop-place
invariant-loop-place g l = record {
  places : OneSoFar l.single l.path l.fn.places l.places l.place l.before;
  ticks : IsTicked g.L.Ledger.noted l.place l.fn.steps l.steps;
}
