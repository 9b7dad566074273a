-- The errors of a sweep and the faults of a change by a journal, as the program's own errors.
use Rattle.journal.specs.declared.fault.JournalFault.{JournalFault}
use Rattle.journal.specs.declared.fault.JournalFault.TheVariants as fault
use Rattle.sd_core.specs.declared.error.Error.{Error}
use Rattle.sd_core.specs.declared.error.Error.TheVariants as sweep
use Rattle.sd_journal.specs.declared.error.JournalError.{JournalError}
use Rattle.sd_journal.specs.declared.error.JournalError.TheVariants as error

-- want of memory is an answer of its own
abbrev pub of_sweep : Error → JournalError
of_sweep sweep.NoMemory = error.NoMemory
of_sweep refused = error.Sweep refused

-- what a sweep could answer too is its error
abbrev pub of_change : JournalFault → JournalError
of_change fault.RootMissing = error.Sweep sweep.RootMissing
of_change (fault.File refused) = error.Sweep (sweep.File refused)
of_change fault.Pending = error.Pending
of_change (fault.TempName folder) = error.TempName folder
of_change (fault.Unfinished job) = error.Unfinished job
of_change fault.BadJournal = error.BadJournal
of_change (fault.StageMissing path) = error.StageMissing path
of_change (fault.StageDiffers path planned found) = error.StageDiffers path planned found
of_change fault.NoMemory = error.NoMemory
