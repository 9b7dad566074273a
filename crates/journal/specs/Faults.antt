-- Which fault of a step is which of a journalled change, and which is for want of memory.
use Rattle.std.specs.Prelude.{◌≡◌, ⊤}
use Rattle.sd_io.specs.declared.fault.DiskFault.{DiskFault}
use Rattle.sd_io.specs.declared.fault.DiskFault.TheVariants as disk
use Rattle.file_rewrite.specs.declared.fault.JobFault.TheVariants as job
use Rattle.journal_text.specs.declared.fault.JournalTextFault.{JournalTextFault}
use Rattle.journal_text.specs.declared.fault.JournalTextFault.TheVariants as text
use Rattle.journal.specs.declared.fault.JournalFault.{JournalFault}
use Rattle.journal.specs.declared.fault.JournalFault.TheVariants as fault

-- the fault of a step before the journal gets its name, or before a recovery writes; want of memory is an answer of its own
abbrev pub of_disk : DiskFault → JournalFault
of_disk disk.Absent = fault.File disk.Absent
of_disk disk.Taken = fault.File disk.Taken
of_disk disk.Failed = fault.File disk.Failed
of_disk disk.NoMemory = fault.NoMemory

abbrev pub of_text : JournalTextFault → JournalFault
of_text text.NotAJournal = fault.BadJournal
of_text text.NoMemory = fault.NoMemory

-- it is refused for want of memory, before the journal has its name, or from then on
abbrev pub WantsMemory : JournalFault → Type 0
WantsMemory (fault.Unfinished refused) = refused ≡ job.NoMemory
WantsMemory fault.NoMemory = ⊤
WantsMemory _ = ⊥
