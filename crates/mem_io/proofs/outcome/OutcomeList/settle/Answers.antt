use Rattle.std.proofs.Common.{◌<◌, length, sym, ◌∙◌, ap, arith, set}
use Rattle.std.proofs.lemmas.List.Edits.{map_over_more}
use Rattle.sd_io.specs.Outcomes.{settled}
use Rattle.mem_io.proofs.outcome.OutcomeList.settle.Goals as goal

pub loop-outcome-preserved : goal.loop-outcome-preserved
loop-outcome-preserved c =
    let low : c.loop-outcome.outcome-index < length c.deref_mut-outcome-items.result.now = omega arith in
    ap (set c.loop-outcome.outcome-items c.loop-outcome.outcome-index) (c.in_ok-settle.ensures ∙ ap (settled c.args.node.now) (sym c.outcome-item.is))
    ∙ map_over_more (settled c.args.node.now) _ _ _ c.outcome-item.result low c.loop-outcome.invariant c.outcome-item.is
