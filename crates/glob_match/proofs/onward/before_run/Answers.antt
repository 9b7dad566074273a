use Rattle.std.proofs.Common.{◌≡◌, ◌≢◌, ◌↔◌, ◌⊎◌, ◌-◌, get_or, slice_get, Some, true, false, arith}
use Rattle.std.proofs.lemmas.Grind.{common_steps}
use Rattle.glob_match.specs.declared.piece.Piece.TheVariants.{AnyRun}
use Rattle.glob_match.proofs.onward.BackwardLemmas.{piece_back_none, run_back_more, turned_back}
use Rattle.glob_match.proofs.onward.before_run.Goals as goal

pub loop-place-init : goal.loop-place-init
loop-place-init c = piece_back_none AnyRun _ _ c.requires

pub loop-place-preserved : goal.loop-place-preserved
loop-place-preserved c =
    let leads : (c.if-places-place.after ≡ true) ↔ ((get_or c.loop-place.places (c.loop-place.place - 1) false ≡ true) ⊎ ((c.loop-place.after ≡ true) × (slice_get c.args.path.now (c.loop-place.place - 1) ≢ Some 47))) = grind (arith, common_steps) in
    run_back_more _ _ _ _ _ _ c.loop-place.invariant c.loop-place-test.true (omega arith) c.requires leads

pub returns : goal.returns
returns c = turned_back _ _ _ _ _ c.requires c.loop-place-test.false c.loop-place.invariant.turned
