use Rattle.std.proofs.Common.{List, arith, subst, sym}
use Rattle.glob_match.specs.declared.piece.Token.{Token}
use Rattle.glob_match.specs.Walk.{Stand, stand_of}
use Rattle.glob_match.proofs.parse.ReadingLemmas.{drop_next}
use Rattle.std.proofs.Math.ListN.{drop_of_length-le}
use Rattle.glob_match.proofs.walk.CaptureWalkLemmas.{WalkedSoFar, walked_none, walked_more, walked_empty, walked_all}
use Rattle.glob_match.proofs.walk.walk_over.Goals as goal

pub loop-token-init : goal.loop-token-init
loop-token-init c = subst (λ (s : Stand). WalkedSoFar c.args.tokens.now c.args.tokens.now c.args.path.now c.args.sets.items s) (sym c.new-walk.ensures) (walked_none c.args.tokens.now c.args.path.now c.args.sets.items c.requires.sets)

pub unreachable-requires : goal.unreachable-requires
unreachable-requires c =
    let first = drop_next c.args.tokens.now c.loop-token.token-index c.token-item.result _ (omega arith) c.token-item.is in
    let so_far = subst (λ (left : List Token). WalkedSoFar c.args.tokens.now left c.args.path.now c.loop-token.sets.items (stand_of c.loop-token.walk)) first c.loop-token.invariant in
    walked_empty _ _ _ _ _ _ so_far (omega (arith, c.in_default.ensures.cases, c.loop-token.sets.ok))

pub take-requires : goal.take-requires
take-requires c = c.loop-token.invariant.numbered

pub loop-token-preserved : goal.loop-token-preserved
loop-token-preserved c =
    let first = drop_next c.args.tokens.now c.loop-token.token-index c.token-item.result _ (omega arith) c.token-item.is in
    let so_far = subst (λ (left : List Token). WalkedSoFar c.args.tokens.now left c.args.path.now c.loop-token.sets.items (stand_of c.loop-token.walk)) first c.loop-token.invariant in
    walked_more _ _ _ _ _ _ _ _ _ so_far c.in-Some.ensures.items c.in_ok-take.ensures

pub returns : goal.returns
returns c =
    let last = drop_of_length-le c.args.tokens.now (omega arith) in
    let so_far = subst (λ (left : List Token). WalkedSoFar c.args.tokens.now left c.args.path.now c.loop-token.sets.items (stand_of c.loop-token.walk)) last c.loop-token.invariant in
    walked_all _ _ _ _ so_far
