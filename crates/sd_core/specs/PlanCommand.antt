-- What the plan of a tree promises as a command.
use Rattle.std.specs.Prelude.{List, Result}
use Rattle.sd_io.specs.Disk.{DiskState}
use Rattle.sd_io.specs.Streams.{SinkState}
use Rattle.sd_change.specs.Change.{Change}
use Rattle.sd_course.specs.Course.{Course}
use Rattle.sd_plan.specs.Plan.{text_of}
use Rattle.sd_plan.specs.declared.line.PlanLine.{PlanLine}
use Rattle.sd_core.specs.Plan.{PlansTree}
use Rattle.sd_core.specs.Printing.{EndsBy}
use Rattle.sd_core.specs.Selection.{Selection}
use Rattle.sd_core.specs.Sweep.{sweep_cap}
use Rattle.sd_core.specs.declared.error.Error.{Error}
use Rattle.sd_core.specs.declared.ended.Why.{Why}

-- The command makes the plan of a tree, whose text is printed.
pub record PlanCommand (change : Change) (selection : Selection) (same_disk same_out : Type 0) (d : Course DiskState) (out : Course SinkState) (ended : Why) : Type 0 where
  pub result : Result (List PlanLine) Error
  pub plans : PlansTree change selection sweep_cap same_disk result d
  pub prints : EndsBy text_of result same_out out ended
