use Rattle.std.proofs.Common.{◌+◌, inl, inr, arith}
use Rattle.hir_program.proofs.scan.bits.MaskLemmas.{Joins-begin, Joins-next, Joins-end}
use Rattle.hir_program.proofs.scan.bits.joined.Goals as goal

pub loop-row-init : goal.loop-row-init
loop-row-init c = Joins-begin c.args.rows.now c.args.live

pub returns-then-rest-eq0 : goal.returns-then-rest-eq0
returns-then-rest-eq0 c =
    Joins-end c.args.rows.now c.args.live (c.loop-row.row + 1) _ _ (Joins-next c.args.rows.now c.args.live c.loop-row.row c.loop-row.rest c.loop-row.joined c.loop-row.invariant)
    (inl c.if-rest-eq0.true)

pub loop-row-preserved : goal.loop-row-preserved
loop-row-preserved c = Joins-next c.args.rows.now c.args.live c.loop-row.row c.loop-row.rest c.loop-row.joined c.loop-row.invariant

pub returns : goal.returns
returns c = Joins-end c.args.rows.now c.args.live c.loop-row.row c.loop-row.rest c.loop-row.joined c.loop-row.invariant (inr (omega arith))
