-- How a sweep's answer becomes that of a command on a tree.
use Rattle.std.specs.Prelude.{Result}
use Rattle.sd_io.specs.Outcomes.{content_at}
use Rattle.sd_io.specs.Disk.{DiskState}
use Rattle.sd_io.specs.Streams.{SinkState}
use Rattle.sd_io.specs.Crashes.{LeavesSince}
use Rattle.sd_change.specs.Change.{Change}
use Rattle.sd_course.specs.Course.{Course}
use Rattle.many_files.specs.Files.{IsFreeBeside}
use Rattle.many_files.specs.Rewritten.{IsNewOne}
use Rattle.many_files.specs.declared.report.Report.{Report}
use Rattle.sd_core.specs.Printing.{EndsBy}
use Rattle.sd_core.specs.Report.{line_of}
use Rattle.sd_core.specs.Selection.{Selection}
use Rattle.sd_core.specs.Sweep.{Sweeps, sweep_cap}
use Rattle.sd_core.specs.TreeCommand.{TreeCommand, CrashesLeave}
use Rattle.sd_core.specs.declared.error.Error.{Error}
use Rattle.sd_core.specs.declared.ended.Why.{Why}

-- what is said of each place holds of each image
of_images : (change : Change) (selection : Selection) (old new : DiskState)
    → LeavesSince (IsNewOne (selection.IsOne old.tree) change old.tree) (IsFreeBeside (selection.IsOne old.tree) old.tree) old new → CrashesLeave change selection old new
of_images change selection old new since image (k, low, high, all) q = since.each k low high q (content_at image q) (all q)

pub swept : (change : Change) (selection : Selection) (same_disk same_out : Type 0) (d : Course DiskState) (out : Course SinkState) (result : Result Report Error) (ended : Why)
    → Sweeps change selection sweep_cap same_disk result d → EndsBy line_of result same_out out ended → TreeCommand change selection same_disk same_out d out ended
swept change selection same_disk same_out d out result ended sweeps prints = record {
  result = result;
  sweeps = sweeps;
  prints = prints;
  crash = λ told. of_images change selection d.old d.new (sweeps.crash told);
}
