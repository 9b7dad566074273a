use Rattle.glob_match.proofs.places.PlacesLemmas.{start_more}
use Rattle.glob_match.proofs.places.start_alone.Goals as goal

pub loop-preserved : goal.loop-preserved
loop-preserved c = start_more _ _ _ c.loop.invariant c.in_ok-push-2.ensures.items
