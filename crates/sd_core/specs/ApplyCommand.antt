-- What the applying of a plan promises as a command.
use Rattle.std.specs.Prelude.{ℕ, List, Result}
use Rattle.sd_io.specs.Disk.{DiskState}
use Rattle.sd_io.specs.Streams.{SinkState}
use Rattle.sd_change.specs.Change.{Change}
use Rattle.sd_course.specs.Course.{Course}
use Rattle.many_files.specs.declared.report.Report.{Report}
use Rattle.sd_core.specs.Apply.{AppliesFile}
use Rattle.sd_core.specs.Printing.{EndsBy}
use Rattle.sd_core.specs.Report.{line_of}
use Rattle.sd_core.specs.declared.error.Error.{Error}
use Rattle.sd_core.specs.declared.ended.Why.{Why}

-- The plan that the file at the path holds is applied, and the report is printed.
pub record ApplyCommand (change : Change) (path : List ℕ) (same_out : Type 0) (d : Course DiskState) (out : Course SinkState) (ended : Why) : Type 0 where
  pub result : Result Report Error
  pub applies : AppliesFile change path result d
  pub prints : EndsBy line_of result same_out out ended
