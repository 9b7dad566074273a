use Rattle.std.proofs.Common.{refl}
use Rattle.std.specs.Prelude.{Err}
use Rattle.sd_core.proofs.selecting.GlobLemmas.{is_told}
use Rattle.sd_core.proofs.applying.apply_file.Goals as goal

pub returns-in_err-plan : goal.returns-in_err-plan
returns-in_err-plan g c = record {
  read = Err c.in_err-plan.field-0.0;
  between = g.D.Disk.state c.plan_of_file.new.disk;
  reads = c.in_err-plan.ensures;
  applies = (is_told c.from_residual.result _ c.from_residual.ensures.1, refl);
}
