use Rattle.std.proofs.Common.{ap, refl}
use Rattle.std.specs.Prelude.{Ok, Err}
use Rattle.sd_core.proofs.ignoring.KeptLemmas.{same_states}
use Rattle.sd_core.proofs.selecting.GlobLemmas.{is_told}
use Rattle.sd_core.proofs.ignoring.sweep_by_file.Goals as goal

pub returns-in_err-rules : goal.returns-in_err-rules
returns-in_err-rules g c = record {
  read = Err c.in_err-rules.field-0.0;
  between = g.D.Disk.state c.rules_of_file.new.disk;
  reads = c.in_err-rules.ensures;
  sweeps = (is_told c.from_residual.result _ c.from_residual.ensures.1, refl);
}

pub returns : goal.returns
returns g c = record {
  read = Ok c.in_ok-rules.rules;
  between = g.D.Disk.state c.rules_of_file.new.disk;
  reads = c.in_ok-rules.ensures;
  sweeps = same_states _ _ _ _ _ _ _ _ (λ e. ap g.D.Disk.state e) c.sweep_ignoring.ensures;
}
