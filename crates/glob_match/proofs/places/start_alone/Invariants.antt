use Rattle.glob_match.specs.Places.{IsStartAlone}
use Rattle.glob_match.proofs.places.start_alone.Given as goal

abbrev pub invariant-loop : goal.invariant-loop
invariant-loop l = IsStartAlone l.counter l.places.items
