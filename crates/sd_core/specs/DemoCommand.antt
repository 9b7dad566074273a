-- What a demo promises as a command.
use Rattle.std.specs.Prelude.{ℕ, List, Result}
use Rattle.sd_io.specs.Streams.{SinkState}
use Rattle.sd_change.specs.Change.{Change}
use Rattle.sd_course.specs.Course.{Course}
use Rattle.many_files.specs.declared.report.Report.{Report}
use Rattle.sd_core.specs.Demo.{SweepsDemo}
use Rattle.sd_core.specs.Printing.{EndsBy}
use Rattle.sd_core.specs.Report.{line_of}
use Rattle.sd_core.specs.declared.error.Error.{Error}
use Rattle.sd_core.specs.declared.ended.Why.{Why}

-- A demo is the sweep of its tree, whose report is printed.
pub record DemoCommand (change : Change) (n : ℕ) (globs : List (List ℕ)) (same_out : Type 0) (out : Course SinkState) (ended : Why) : Type 0 where
  pub result : Result Report Error
  pub sweeps : SweepsDemo change n globs result
  pub prints : EndsBy line_of result same_out out ended
