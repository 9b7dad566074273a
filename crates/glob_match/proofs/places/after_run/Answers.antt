use Rattle.std.proofs.Common.{◌≡◌, ◌≢◌, ◌↔◌, ◌⊎◌, get_or, slice_get, Some, true, false, arith}
use Rattle.std.proofs.lemmas.Grind.{common_steps}
use Rattle.sd_base.proofs.StepsLemmas.{ticked_add, ticked_as}
use Rattle.glob_match.proofs.places.PlacesLemmas.{run_more, turned_all}
use Rattle.glob_match.proofs.places.after_run.Goals as goal

pub loop-place-preserved : goal.loop-place-preserved
loop-place-preserved g c =
    let leads : (c.if-to.leads ≡ true) ↔ ((get_or c.loop-place.places c.loop-place.place false ≡ true) ⊎ (c.loop-place.running ≡ true)) = grind (arith, common_steps) in
    let next : (c.if-leads.running ≡ true) ↔ ((c.if-to.leads ≡ true) × (slice_get c.args.path.now c.loop-place.place ≢ Some 47)) = grind (arith, common_steps) in
    record {
      places = run_more _ _ _ _ _ _ _ c.loop-place.invariant.places (omega arith) c.requires leads next;
      ticks = ticked_add c.loop-place.invariant.ticks c.tick.ensures;
    }

pub returns : goal.returns
returns g c = record {
  places = turned_all _ _ _ _ _ c.requires c.loop-place-test.false c.loop-place.invariant.places.turned;
  ticks = ticked_as (omega arith) c.loop-place.invariant.ticks;
}
