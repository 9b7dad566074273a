use Rattle.std.proofs.Common.{refl}
use Rattle.std.specs.Prelude.{Err}
use Rattle.sd_core.specs.declared.error.Error.TheVariants as error
use Rattle.sd_core.proofs.planning.EndLemmas.{no_text}
use Rattle.sd_core.proofs.commands.plan_command.Goals as goal

pub returns-in-Err-write_plan : goal.returns-in-Err-write_plan
returns-in-Err-write_plan g c = record {
  result = Err error.NoMemory;
  plans = no_text _ _ _ _ c.in-Ok.plan _ c.in-Ok.ensures;
  prints = (refl, refl);
}
