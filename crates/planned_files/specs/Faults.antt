-- Which fault of a step is which of a plan's carrying out.
use Rattle.sd_io.specs.declared.fault.DiskFault.{DiskFault}
use Rattle.sd_io.specs.declared.fault.DiskFault.TheVariants as disk
use Rattle.many_files.specs.declared.fault.FilesFault.{FilesFault}
use Rattle.many_files.specs.declared.fault.FilesFault.TheVariants as files
use Rattle.planned_files.specs.declared.fault.ApplyFault.{ApplyFault}
use Rattle.planned_files.specs.declared.fault.ApplyFault.TheVariants as fault

-- of the disk; want of memory is an answer of its own
abbrev pub of_disk : DiskFault → ApplyFault
of_disk disk.Absent = fault.File disk.Absent
of_disk disk.Taken = fault.File disk.Taken
of_disk disk.Failed = fault.File disk.Failed
of_disk disk.NoMemory = fault.NoMemory

-- of the rewriting
abbrev pub of_files : FilesFault → ApplyFault
of_files (files.Failed jobs) = fault.Failed jobs
of_files files.NoMemory = fault.NoMemory
