use Rattle.std.proofs.Common.{◌<◌, length, sym, ◌∙◌, ap, arith, set}
use Rattle.std.proofs.lemmas.List.Edits.{map_over_more}
use Rattle.mem_io.specs.Log.{outcome_on}
use Rattle.mem_io.proofs.outcome.OutcomeList.put_dev.Goals as goal

pub loop-outcome-preserved : goal.loop-outcome-preserved
loop-outcome-preserved c =
    let low : c.loop-outcome.outcome-index < length c.deref_mut-outcome-items.result.now = omega arith in
    ap (set c.loop-outcome.outcome-items c.loop-outcome.outcome-index) (c.put_dev.ensures ∙ ap (outcome_on c.args.dev) (sym c.outcome-item.is))
    ∙ map_over_more (outcome_on c.args.dev) _ _ _ c.outcome-item.result low c.loop-outcome.invariant c.outcome-item.is
