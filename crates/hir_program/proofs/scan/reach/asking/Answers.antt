use Rattle.std.proofs.Common.{sym, subst, arith}
use Rattle.hir_program.specs.Masks.{AllAsk}
use Rattle.hir_program.proofs.scan.reach.ReachLemmas.{AllAsk-push}
use Rattle.hir_program.proofs.scan.reach.asking.Goals as goal

pub loop-spot-preserved : goal.loop-spot-preserved
loop-spot-preserved c = record {
  room = omega (arith, c.in_ok-push.ensures.len, c.loop-spot.invariant.room);
  ask =
      subst (AllAsk c.args.spots.now c.args.look) (sym c.in_ok-push.ensures.items)
      (AllAsk-push c.args.spots.now c.args.look c.loop-spot.asking.items c.spot-item.result c.asks.result c.loop-spot.spot-index (omega (arith, c.loop-spot.invariant.room)) (omega arith)
      c.spot-item.is c.asks.ensures c.loop-spot.invariant.ask);
}
