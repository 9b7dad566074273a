use Rattle.sd_base.specs.Steps.{IsTicked}
use Rattle.glob_match.proofs.places.PlacesLemmas.{RunSoFar}
use Rattle.glob_match.proofs.places.after_run.Given as goal

abbrev pub invariant-loop-place : goal.invariant-loop-place
invariant-loop-place g l = record {
  places : RunSoFar l.path l.fn.places l.places l.place l.running;
  ticks : IsTicked g.L.Ledger.noted l.place l.fn.steps l.steps;
}
