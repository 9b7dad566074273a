use Rattle.std.proofs.Common.{◌≡◌, ◌↔◌, ◌-◌, true, arith}
use Rattle.std.proofs.lemmas.Grind.{common_steps}
use Rattle.glob_match.specs.Places.{TakesAt}
use Rattle.glob_match.proofs.onward.BackwardLemmas.{one_back_none, one_back_more, turned_back}
use Rattle.glob_match.proofs.onward.before_one.Goals as goal

pub loop-place-init : goal.loop-place-init
loop-place-init c = one_back_none _ _ _ c.requires

pub loop-place-preserved : goal.loop-place-preserved
loop-place-preserved c =
    let leads : (c.if-after.places ≡ true) ↔ ((c.loop-place.after ≡ true) × TakesAt c.args.single.now c.args.path.now (c.loop-place.place - 1)) = grind (arith, common_steps) in
    one_back_more _ _ _ _ _ _ _ c.loop-place.invariant c.loop-place-test.true (omega arith) leads

pub returns : goal.returns
returns c = turned_back _ _ _ _ _ c.requires c.loop-place-test.false c.loop-place.invariant.turned
