use Rattle.std.proofs.Common.{sym, subst, arith}
use Rattle.hir_program.specs.Masks.{CoverTheirSpots, HaveOwnBits}
use Rattle.hir_program.proofs.scan.reach.DeadLemmas.{CoverTheirSpots-more, HaveOwnBits-more}
use Rattle.hir_program.proofs.scan.reach.firsts.Goals as goal

pub loop-place-preserved : goal.loop-place-preserved
loop-place-preserved c = record {
  count = omega (arith, c.in_ok-push.ensures.len, c.loop-place.invariant.count);
  covers =
      subst (CoverTheirSpots c.args.spots.now c.args.of.now c.args.look) (sym c.in_ok-push.ensures.items)
      (CoverTheirSpots-more c.args.spots.now c.args.of.now c.args.look c.loop-place.firsts.items c.in_ok-mask.mask c.loop-place.place (omega (arith, c.loop-place.invariant.count))
      c.loop-place.invariant.covers c.in_ok-mask.ensures.covers);
  own =
      subst (HaveOwnBits c.args.spots.now c.args.of.now) (sym c.in_ok-push.ensures.items)
      (HaveOwnBits-more c.args.spots.now c.args.of.now c.loop-place.firsts.items c.in_ok-mask.mask c.loop-place.place (omega (arith, c.loop-place.invariant.count))
      c.loop-place.invariant.own c.in_ok-mask.ensures.own);
}
