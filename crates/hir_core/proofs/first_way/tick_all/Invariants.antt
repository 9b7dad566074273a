use Rattle.sd_base.specs.Steps.{IsTicked}
use Rattle.hir_core.proofs.first_way.tick_all.Given as goal

-- so many were taken
abbrev pub invariant-loop-step : goal.invariant-loop-step
invariant-loop-step g l = IsTicked g.L.Ledger.noted l._step l.fn.steps l.steps
