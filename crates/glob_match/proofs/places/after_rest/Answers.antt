use Rattle.std.proofs.Common.{◌≡◌, ◌↔◌, ◌⊎◌, get_or, true, false, arith}
use Rattle.std.proofs.lemmas.Grind.{common_steps}
use Rattle.sd_base.proofs.StepsLemmas.{ticked_add, ticked_as}
use Rattle.glob_match.proofs.places.PlacesLemmas.{rest_more, turned_all}
use Rattle.glob_match.proofs.places.after_rest.Goals as goal

pub loop-to-preserved : goal.loop-to-preserved
loop-to-preserved g c =
    let here : (c.if-to.here ≡ true) ↔ ((get_or c.loop-to.places c.loop-to.to-index false ≡ true) ⊎ (c.loop-to.reached ≡ true)) = grind (arith, common_steps) in
    record {
      places = rest_more _ _ _ _ _ _ c.loop-to.invariant.places (omega arith) c.requires here;
      ticks = ticked_add c.loop-to.invariant.ticks c.tick.ensures;
    }

pub returns : goal.returns
returns g c = record {
  places = turned_all _ _ _ _ _ c.requires c.loop-to-test.false c.loop-to.invariant.places.turned;
  ticks = ticked_as (omega arith) c.loop-to.invariant.ticks;
}
