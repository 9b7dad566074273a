-- What a recovery does, and how it ends.
use Rattle.std.specs.Prelude.{◌≡◌, ◌⊎◌, ◌≤◌, ◌++◌, ◌∷◌, [], ℕ, true, IsTrue, List, Some, None, Result, Ok, Err, IfOk, IfErr, OnOk}
use Rattle.sd_io.specs.Count.{HasRisen}
use Rattle.sd_io.specs.Tree.{NameList, node_at}
use Rattle.sd_io.specs.Paths.{reached}
use Rattle.sd_io.specs.Disk.{DiskState}
use Rattle.sd_course.specs.Course.{Course}
use Rattle.change_phases.specs.Between.{Work, AllOld, AllNew, journal_name}
use Rattle.journal.specs.Faults.{WantsMemory}
use Rattle.journal.specs.Keeping.{KeepsBetween}
use Rattle.journal.specs.Finding.{LeavesLists}
use Rattle.journal.specs.Clearing.{LeavesNoMore}
use Rattle.journal.specs.Recovering.{MayRecover, IsMisread, IsRecovered, RecoverFails, IsBeforeWriting, HaveFreeNames}
use Rattle.journal.specs.declared.fault.JournalFault.{JournalFault}
use Rattle.sd_journal.specs.Errors.{of_change}
use Rattle.sd_journal.specs.declared.error.JournalError.{JournalError}

-- the same answer, its fault told as the program's error
abbrev pub told_as_error : Result ℕ JournalFault → Result ℕ JournalError
told_as_error (Ok files) = Ok files
told_as_error (Err fault) = Err (of_change fault)

-- What the recovery of a change below a root promises at each of its ends: from whatever a crash, a refusal, or recoveries that were cut off left of a sweep,
-- and from any other state what is answered, why it is refused, that nothing was written before, and that no journal is left.
pub record RecoversChange (root : List ℕ) (answer : Result ℕ JournalFault) (d : Course DiskState) : Type 0 where
  pub kept : IsTrue d.tells → (work : Work) → MayRecover work root d.old → KeepsBetween work d.old d.new
  pub recovered : IsTrue d.tells → (work : Work) → MayRecover work root d.old → OnOk answer (AllOld work d.new.tree ⊎ AllNew work d.new.tree)
  pub readable : IsTrue d.tells → (work : Work) → MayRecover work root d.old → IfErr answer (λ fault. IsMisread fault → ⊥)
  pub counts : IsTrue d.tells → IfOk answer (λ files. IsRecovered d.old root files d.new)
  pub fails : IfErr answer (RecoverFails d root)
  pub unwritten : IsTrue d.tells → IfErr answer (λ fault. IsBeforeWriting fault → LeavesNoMore d.old d.new)
  pub gone : IsTrue d.tells → (folder : NameList) → reached d.old.tree root true ≡ Some folder → OnOk answer (node_at d.new.tree (folder ++ journal_name ∷ []) ≡ None)
  pub complete : IsTrue d.tells → (work : Work) → MayRecover work root d.old → HaveFreeNames work d.old.tree → (HasRisen d.old.faults d.new.faults → ⊥)
      → IfErr answer WantsMemory
  pub lists : LeavesLists d.old d.new
  pub never_falls : d.old.faults ≤ d.new.faults

-- The change of a sweep below the root is recovered, or refused, with all that is promised of that.
pub record Recovers (root : List ℕ) (result : Result ℕ JournalError) (d : Course DiskState) : Type 0 where
  pub answer : Result ℕ JournalFault
  pub recovers : RecoversChange root answer d
  pub told : result ≡ told_as_error answer
