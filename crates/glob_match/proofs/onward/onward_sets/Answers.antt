use Rattle.std.proofs.Common.{◌≡◌, ◌-◌, ◌∷◌, ◌++◌, [], Bool, List, suc, length, get_or, arith, ap, ◌∙◌}
use Rattle.glob_match.proofs.places.PlacesLemmas.{written}
use Rattle.glob_match.proofs.onward.OnwardLemmas.{depths_long, onward_next}
use Rattle.glob_match.specs.Backward.{depths_from}
use Rattle.glob_match.proofs.onward.onward_sets.Goals as goal

pub index-requires : goal.index-requires
index-requires c = omega (arith, c.in_ok-depths.depths.ok.0, ap length c.in_ok-depths.ensures, depths_long 0 c.args.tokens.now)

pub loop-at-preserved : goal.loop-at-preserved
loop-at-preserved c =
    let there = written c.loop-at.places.len c.loop-at.places.items c.before_token.new.places (omega (arith, c.loop-at.places.ok.0)) (omega (arith, c.before_token.auto.places, c.deref_mut.ensures.len, c.loop-at.places.ok.0)) in
    let step = rw c.deref_mut.ensures.value at c.in_ok-before_token.ensures in
    let set : c.in_ok-new-2.field-0 ≡ c.before_token.new.places = c.in_ok-new-2.ensures ∙ c.deref-in-loop-at.ensures.value ∙ there in
    let grown = c.in_ok-push-2.ensures.items ∙ ap (λ (s : List Bool). c.loop-at.sets.items ++ s ∷ []) set in
    let before : c.loop-at.at ≡ suc (c.loop-at.at - 1) = omega (arith, c.loop-at-test.true) in
    let depth : c.index.result.now ≡ get_or (depths_from 0 c.args.tokens.now) (c.loop-at.at - 1) c.index.result.now = c.index.ensures ∙ ap (λ ds. get_or ds (c.loop-at.at - 1) c.index.result.now) c.in_ok-depths.ensures in
    rw there (onward_next _ _ _ _ _ _ _ _ _ _ _ _ _ _ c.loop-at.invariant before (omega arith) c.index-tokens-at.is depth step grown)
