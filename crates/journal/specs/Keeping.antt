-- What the steps of a journalled change keep.
use Rattle.std.specs.Prelude.{◌≡◌, ℕ, List, [], Some}
use Rattle.sd_io.specs.Files.{path_text}
use Rattle.sd_io.specs.Lists.{directory_of}
use Rattle.sd_io.specs.Disk.{DiskState}
use Rattle.journal_text.specs.declared.line.Line.{Line}
use Rattle.change_phases.specs.Between.{Work, IsWork, IsJournalFor, LeavesBetween, journal_of}
use Rattle.change_phases.specs.Phases.{Phase, preparing, IsIn, PassesIn}
use Rattle.change_phases.specs.Recovery.{AreSettled}

-- the root's path and that of its journal
pub record AreRootPaths (work : Work) (root journal : List ℕ) : Type 0 where
  pub leads : directory_of work.tree root ≡ Some work.root
  pub journal_is : journal ≡ path_text (journal_of work)

-- ---- before the stages are made

-- no journal is found yet; the files and its place are settled
pub record IsPreparing (work : Work) (state : DiskState) : Type 0 where
  pub is_work : IsWork work
  pub preparing_now : IsIn preparing work [] state
  pub settled : AreSettled work state

pub record KeepsPreparing (work : Work) (old new : DiskState) : Type 0 where
  pub passes : PassesIn preparing work [] old new
  pub settled : AreSettled work new

-- ---- in a phase

-- the lines are a journal for the work, a phase lasts, and the files and the journal's place are settled
pub record IsSettledIn (phase : Phase) (work : Work) (lines : List Line) (state : DiskState) : Type 0 where
  pub is_work : IsWork work
  pub is_for : IsJournalFor work lines
  pub phase_now : IsIn phase work lines state
  pub settled : AreSettled work state

-- the phase goes on, and they stay settled
pub record KeepsPhase (phase : Phase) (work : Work) (lines : List Line) (old new : DiskState) : Type 0 where
  pub passes : PassesIn phase work lines old new
  pub settled : AreSettled work new

-- ---- from phase to phase

-- each image on the way is between, and what was settled is so
pub record KeepsBetween (work : Work) (old new : DiskState) : Type 0 where
  pub between : LeavesBetween work old new
  pub settled : AreSettled work new
