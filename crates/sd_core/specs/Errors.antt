-- The faults of what a command does, as its own errors.
use Rattle.sd_io.specs.declared.fault.DiskFault.{DiskFault}
use Rattle.sd_io.specs.declared.fault.DiskFault.TheVariants as disk
use Rattle.sd_replace.specs.declared.error.ReplacerFault.{ReplacerFault}
use Rattle.sd_replace.specs.declared.error.ReplacerFault.TheVariants as replacer
use Rattle.chosen_files.specs.declared.fault.ChoiceFault.{ChoiceFault}
use Rattle.chosen_files.specs.declared.fault.ChoiceFault.TheVariants as choice
use Rattle.many_files.specs.declared.fault.FilesFault.{FilesFault}
use Rattle.many_files.specs.declared.fault.FilesFault.TheVariants as files
use Rattle.stream_rewrite.specs.declared.fault.StreamFault.{StreamFault}
use Rattle.stream_rewrite.specs.declared.fault.StreamFault.TheVariants as stream
use Rattle.named_files.specs.declared.fault.PreviewFault.{PreviewFault}
use Rattle.named_files.specs.declared.fault.PreviewFault.TheVariants as preview
use Rattle.sd_plan.specs.declared.fault.PlanFault.{PlanFault}
use Rattle.sd_plan.specs.declared.fault.PlanFault.TheVariants as plan
use Rattle.planned_files.specs.declared.fault.ApplyFault.{ApplyFault}
use Rattle.planned_files.specs.declared.fault.ApplyFault.TheVariants as apply
use Rattle.sd_ignore.specs.declared.fault.IgnoreFault.{IgnoreFault}
use Rattle.sd_ignore.specs.declared.fault.IgnoreFault.TheVariants as ignore
use Rattle.sd_core.specs.declared.error.Error.{Error}
use Rattle.sd_core.specs.declared.error.Error.TheVariants as error

abbrev pub of_replacer : ReplacerFault → Error
of_replacer (replacer.InvalidReplaceCapture capture) = error.InvalidReplaceCapture capture
of_replacer (replacer.Regex refused) = error.Regex refused
of_replacer replacer.NoMemory = error.NoMemory

abbrev pub of_choice : ChoiceFault → Error
of_choice (choice.BadGlob place) = error.BadGlob place
of_choice choice.RootMissing = error.RootMissing
of_choice (choice.Walk failed) = error.Walk failed
of_choice choice.TooMany = error.TooMany
of_choice choice.NoMemory = error.NoMemory

abbrev pub of_files : FilesFault → Error
of_files (files.Failed jobs) = error.FailedProcessing jobs
of_files files.NoMemory = error.NoMemory

abbrev pub of_stream : StreamFault → Error
of_stream stream.Failed = error.File disk.Failed
of_stream stream.InputTooLong = error.InputTooLong
of_stream stream.NoMemory = error.NoMemory

abbrev pub of_preview : PreviewFault → Error
of_preview (preview.File fault) = error.File fault
of_preview (preview.InvalidPath path) = error.InvalidPath path
of_preview preview.NoMemory = error.NoMemory

abbrev pub of_disk : DiskFault → Error
of_disk disk.Absent = error.File disk.Absent
of_disk disk.Taken = error.File disk.Taken
of_disk disk.Failed = error.File disk.Failed
of_disk disk.NoMemory = error.NoMemory

abbrev pub of_plan : PlanFault → Error
of_plan plan.NotAPlan = error.NotAPlan
of_plan plan.NoMemory = error.NoMemory

abbrev pub of_apply : ApplyFault → Error
of_apply (apply.File fault) = error.File fault
of_apply (apply.Stale path planned found) = error.Stale path planned found
of_apply (apply.Differs path planned found) = error.Differs path planned found
of_apply (apply.Failed jobs) = error.FailedProcessing jobs
of_apply apply.NoMemory = error.NoMemory

abbrev pub of_ignore : IgnoreFault → Error
of_ignore (ignore.BadRule number) = error.BadRule number
of_ignore ignore.NoMemory = error.NoMemory
