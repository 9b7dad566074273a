use Rattle.std.proofs.Common.{◌≡◌, ◌↔◌, ◌⊎◌, get_or, true, false, arith, sym, ◌∙◌}
use Rattle.std.proofs.lemmas.Grind.{common_steps}
use Rattle.glob_match.specs.Takes.{IsAfterSeparator}
use Rattle.sd_base.proofs.StepsLemmas.{ticked_add, ticked_as}
use Rattle.glob_match.proofs.places.PlacesLemmas.{depth_more, turned_all}
use Rattle.glob_match.proofs.places.after_depth.Goals as goal
use Rattle.glob_match.proofs.places.after_depth.Goals.{then-here, else-here}

pub loop-place-preserved : goal.loop-place-preserved
loop-place-preserved g c =
    let here : (c.if-to.here ≡ true) ↔ ((get_or c.loop-place.places c.loop-place.place false ≡ true) ⊎ (c.loop-place.reached ≡ true)) = grind (arith, common_steps) in
    let leads : (c.if-here.to ≡ true) ↔ ((c.if-to.here ≡ true) × IsAfterSeparator c.args.path.now c.loop-place.place) = elim c.if-here.branch [
      | then-here w ↦ ((λ e. (w.if-here.true, w.is_after_separator.ensures.0 (sym w.to-is ∙ e))), (λ both. w.to-is ∙ w.is_after_separator.ensures.1 both.1))
      | else-here w ↦ let off = w.if-here.false in let same = w.to-is in ((λ e. absurd (cc)), (λ both. absurd (let on = both.0 in cc)))
    ] in
    record {
      places = depth_more _ _ _ _ _ _ _ c.loop-place.invariant.places (omega arith) c.requires here leads;
      ticks = ticked_add c.loop-place.invariant.ticks c.tick.ensures;
    }

pub returns : goal.returns
returns g c = record {
  places = turned_all _ _ _ _ _ c.requires c.loop-place-test.false c.loop-place.invariant.places.turned;
  ticks = ticked_as (omega arith) c.loop-place.invariant.ticks;
}
