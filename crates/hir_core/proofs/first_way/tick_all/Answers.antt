use Rattle.sd_base.proofs.StepsLemmas.{ticked_none, ticked_add}
use Rattle.hir_core.proofs.first_way.tick_all.Goals as goal

pub loop-step-init : goal.loop-step-init
loop-step-init g c = ticked_none g.L.Ledger.noted c.args.steps.now

pub loop-step-preserved : goal.loop-step-preserved
loop-step-preserved g c = ticked_add c.loop-step.invariant c.tick.ensures
