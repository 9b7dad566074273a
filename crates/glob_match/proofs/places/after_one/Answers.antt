use Rattle.std.proofs.Common.{◌≡◌, ◌↔◌, get_or, true, false, arith}
use Rattle.std.proofs.lemmas.Grind.{common_steps}
use Rattle.glob_match.specs.Places.{TakesAt}
use Rattle.sd_base.proofs.StepsLemmas.{ticked_add, ticked_as}
use Rattle.glob_match.proofs.places.PlacesLemmas.{one_more, turned_all}
use Rattle.glob_match.proofs.places.after_one.Goals as goal

pub loop-place-preserved : goal.loop-place-preserved
loop-place-preserved g c =
    let next : (c.if-from.before ≡ true) ↔ ((get_or c.loop-place.places c.loop-place.place false ≡ true) × TakesAt c.args.single.now c.args.path.now c.loop-place.place) = grind (arith, common_steps) in
    record {
      places = one_more _ _ _ _ _ _ _ c.loop-place.invariant.places (omega arith) next;
      ticks = ticked_add c.loop-place.invariant.ticks c.tick.ensures;
    }

pub returns : goal.returns
returns g c = record {
  places = turned_all _ _ _ _ _ c.requires c.loop-place-test.false c.loop-place.invariant.places.turned;
  ticks = ticked_as (omega arith) c.loop-place.invariant.ticks;
}
