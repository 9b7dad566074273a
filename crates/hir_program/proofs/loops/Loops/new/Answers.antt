use Rattle.std.proofs.Common.{List, Option, Bool, sym, subst, arith}
use Rattle.std.specs.Global.{Box}
use Rattle.hir_program.specs.Loops.{AreRows}
use Rattle.hir_program.proofs.loops.RowsLemmas.{AreRows-push}
use Rattle.hir_program.proofs.loops.Loops.new.Goals as goal

pub loop-place-preserved : goal.loop-place-preserved
loop-place-preserved c = record {
  rows =
      subst (λ (rows : List (Option (Box (List Bool)))). AreRows c.args.spots.now rows) (sym c.in_ok-push.ensures.items)
      (AreRows-push c.args.spots.now c.loop-place.rows.items c.in_ok-row.row c.loop-place.place c.loop-place.invariant.count c.loop-place.invariant.rows c.in_ok-row.ensures);
  count = omega (arith, c.in_ok-push.ensures.len, c.loop-place.invariant.count);
}
