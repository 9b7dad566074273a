use Rattle.sd_plan.proofs.reading.LineLemmas.{no_cut, no_cut_2, no_cut_3, no_cut_4}
use Rattle.sd_plan.proofs.fields.cut_fields.Goals as goal

pub returns-in_err-before-clause-none : goal.returns-in_err-before-clause-none
returns-in_err-before-clause-none c = rw c.from_residual.ensures (no_cut _ c.in_err-before.ensures.none)

pub returns-in_err-after-clause-none : goal.returns-in_err-after-clause-none
returns-in_err-after-clause-none c = rw c.from_residual-in_err-after.ensures (no_cut_2 _ _ _ c.in_ok-before.ensures.found c.in_err-after.ensures.none)

pub returns-in_err-mark-clause-none : goal.returns-in_err-mark-clause-none
returns-in_err-mark-clause-none c =
    rw c.from_residual-in_err-mark.ensures (no_cut_3 _ _ _ _ _ c.in_ok-before.ensures.found c.in_ok-after.ensures.found c.in_err-mark.ensures.none)

pub returns-in_err-count-clause-none : goal.returns-in_err-count-clause-none
returns-in_err-count-clause-none c =
    rw c.from_residual-in_err-count.ensures
    (no_cut_4 _ _ _ _ _ _ _ c.in_ok-before.ensures.found c.in_ok-after.ensures.found c.in_ok-mark.ensures.found c.in_err-count.ensures.none)
