use Rattle.std.proofs.Common.{◌<◌, length, sym, ◌∙◌, ap, arith, set}
use Rattle.std.proofs.lemmas.List.Edits.{map_over_more}
use Rattle.sd_io.specs.Outcomes.{Outcome, older}
use Rattle.mem_io.proofs.outcome.OutcomeList.leave_behind.Goals as goal

pub loop-outcome-preserved : goal.loop-outcome-preserved
loop-outcome-preserved c =
    let low : c.loop-outcome.outcome-index < length c.deref_mut-outcome-items.result.now = omega arith in
    ap (set c.loop-outcome.outcome-items c.loop-outcome.outcome-index) (c.leave_behind.ensures ∙ ap (λ (o : Outcome). older o.left) (sym c.outcome-item.is))
    ∙ map_over_more (λ (o : Outcome). older o.left) _ _ _ c.outcome-item.result low c.loop-outcome.invariant c.outcome-item.is
