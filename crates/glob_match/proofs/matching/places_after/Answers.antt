use Rattle.std.proofs.Common.{◌+◌, ◌*◌, ◌≤◌, List, length, arith, refl, subst}
use Rattle.std.proofs.Math.ListN.{drop_of_length-le}
use Rattle.std.proofs.Math.Nat.{mul-le-mul_right}
use Rattle.sd_base.proofs.StepsLemmas.{ticked_none, at_most, at_most_add, at_most_more}
use Rattle.glob_match.specs.declared.piece.Token.{Token}
use Rattle.glob_match.proofs.parse.ReadingLemmas.{drop_next}
use Rattle.glob_match.proofs.places.PlacesLemmas.{written}
use Rattle.glob_match.proofs.matching.MatchingLemmas.{MatchedSoFar, matched_none, matched_more, matched_all}
use Rattle.glob_match.proofs.matching.places_after.Goals as goal

pub loop-token-init : goal.loop-token-init
loop-token-init g c = record {
  places = rw c.new-braces.ensures.items (matched_none _ _ _ _ refl c.in_ok-places.ensures);
  ticks = at_most (omega arith) (ticked_none _ _);
}

pub loop-token-preserved : goal.loop-token-preserved
loop-token-preserved g c =
    let first = drop_next c.args.tokens.now c.loop-token.token-index c.token-item.result _ (omega arith) c.token-item.is in
    let so_far = subst (λ (left : List Token). MatchedSoFar c.args.tokens.now left c.args.path.now c.loop-token.braces.items c.loop-token.places.items) first c.loop-token.invariant.places in
    let step = rw c.deref_mut.ensures.value at c.in_ok-after_token.ensures in
    let one_more : c.loop-token.token-index * (length c.args.path.now + 1) + (length c.args.path.now + 1) ≤ (c.loop-token.token-index + 1) * (length c.args.path.now + 1) = omega arith in
    record {
      places =
          rw (written c.loop-token.places.len c.loop-token.places.items c.after_token.new.places (omega (arith, c.loop-token.places.ok.0)) (omega (arith, c.after_token.auto.places, c.deref_mut.ensures.len, c.loop-token.places.ok.0)))
          (matched_more _ _ _ _ _ _ _ _ so_far step.places);
      ticks = at_most_more one_more (at_most_add c.loop-token.invariant.ticks c.in_ok-after_token.ensures.ticks);
    }

pub returns-in_err-after_token-clause-ticks : goal.returns-in_err-after_token-clause-ticks
returns-in_err-after_token-clause-ticks g c =
    let here : c.loop-token.token-index + 1 ≤ length c.args.tokens.now = omega arith in
    let one_more : c.loop-token.token-index * (length c.args.path.now + 1) + (length c.args.path.now + 1) ≤ length c.args.tokens.now * (length c.args.path.now + 1) =
    omega (arith, mul-le-mul_right (length c.args.path.now + 1) here) in
    at_most_more one_more (at_most_add c.loop-token.invariant.ticks c.after_token.ensures.ticks)

pub returns-clause-reached : goal.returns-clause-reached
returns-clause-reached g c =
    let so_far = subst (λ (left : List Token). MatchedSoFar c.args.tokens.now left c.args.path.now c.loop-token.braces.items c.loop-token.places.items) (drop_of_length-le c.args.tokens.now c.loop-token-test.false) c.loop-token.invariant.places in
    matched_all _ _ _ _ so_far
