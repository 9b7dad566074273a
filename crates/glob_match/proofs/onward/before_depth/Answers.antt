use Rattle.std.proofs.Common.{◌≡◌, ◌↔◌, ◌⊎◌, ◌-◌, get_or, true, false, arith}
use Rattle.std.proofs.lemmas.Grind.{common_steps}
use Rattle.glob_match.specs.Takes.{IsAfterSeparator}
use Rattle.glob_match.specs.declared.piece.Piece.TheVariants.{AnyDepth}
use Rattle.glob_match.proofs.onward.BackwardLemmas.{piece_back_none, depth_back_more, turned_back}
use Rattle.glob_match.proofs.onward.before_depth.Goals as goal

pub loop-place-init : goal.loop-place-init
loop-place-init c = piece_back_none AnyDepth _ _ c.requires

pub loop-place-preserved : goal.loop-place-preserved
loop-place-preserved c =
    let leads : (c.if-after.after ≡ true) ↔ ((c.loop-place.after ≡ true) ⊎ ((get_or c.loop-place.places (c.loop-place.place - 1) false ≡ true) × IsAfterSeparator c.args.path.now (c.loop-place.place - 1))) = grind (arith, common_steps) in
    depth_back_more _ _ _ _ _ _ c.loop-place.invariant c.loop-place-test.true (omega arith) c.requires leads

pub returns : goal.returns
returns c = turned_back _ _ _ _ _ c.requires c.loop-place-test.false c.loop-place.invariant.turned
