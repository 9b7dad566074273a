use Rattle.std.proofs.Common.{◌≡◌, ◌↔◌, ◌⊎◌, get_or, true, false, arith, rules}
use Rattle.std.proofs.lemmas.Grind.{common_steps}
use Rattle.sd_base.proofs.StepsLemmas.{ticked_add, ticked_as}
use Rattle.glob_match.proofs.places.PlacesLemmas.{union_more, union_all}
use Rattle.glob_match.proofs.braces.add.Goals as goal

pub loop-place-preserved : goal.loop-place-preserved
loop-place-preserved g c =
    let both : (c.if-to.to ≡ true) ↔ ((get_or c.loop-place.places c.loop-place.place false ≡ true) ⊎ (get_or c.args.others.now c.loop-place.place false ≡ true)) = grind (arith, common_steps) in
    record {
      places = union_more _ _ _ _ _ c.loop-place.invariant.places (omega arith) (omega arith) both;
      ticks = search (rules, ticked_add);
    }

pub returns : goal.returns
returns g c = record {
  places = union_all _ _ _ _ c.requires c.loop-place-test.false c.loop-place.invariant.places;
  ticks = ticked_as (omega arith) c.loop-place.invariant.ticks;
}
