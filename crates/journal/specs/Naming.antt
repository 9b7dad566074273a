-- The journal gets its name.
use Rattle.std.specs.Prelude.{◌≡◌, ◌≢◌, ◌⊎◌, ℕ, List, Some, None, Contains, ⊤}
use Rattle.sd_io.specs.Tree.{NameList, Tree, node_at, file_at}
use Rattle.sd_io.specs.Paths.{named, SameWays}
use Rattle.sd_io.specs.Disk.{DiskState}
use Rattle.sd_io.specs.Files.{CannotRename}
use Rattle.sd_io.specs.Lists.{IsNoDirectory}
use Rattle.sd_io.specs.declared.fault.DiskFault.{DiskFault}
use Rattle.sd_io.specs.declared.fault.DiskFault.TheVariants as disk
use Rattle.sd_course.specs.Course.{Course, AsTold, DiskFailed}
use Rattle.sd_io.specs.Crashes.{IsSettledAt}
use Rattle.journal_text.specs.declared.line.Line.{Line}
use Rattle.journal_text.specs.Journal.{text_of}
use Rattle.change_phases.specs.Between.{Work, journal_of, stage_of, IsAside}
use Rattle.change_phases.specs.Phases.{naming}
use Rattle.journal.specs.Keeping.{AreRootPaths, IsSettledIn}

-- All stages are there for good. The journal's text stands, settled, under a reserved name that was free and is no stage's, and nothing under its own.
pub record MayBeNamed (work : Work) (lines : List Line) (temporary journal root : List ℕ) (state : DiskState) : Type 0 where
  pub root_paths : AreRootPaths work root journal
  pub phase : IsSettledIn naming work lines state
  pub place : NameList
  pub names : named state.tree temporary ≡ Some place
  pub was_free : IsAside work place
  pub no_stage : (line : Line) → Contains lines line → place ≢ stage_of line
  pub mode : ℕ
  pub holds : file_at state.tree place ≡ Some (text_of lines, mode)
  pub settled : IsSettledAt state place
  pub free : node_at state.tree (journal_of work) ≡ None

-- The file at the one path stands at the other, and the first is free. Every other place is as before, and paths lead where they led.
pub record MovesTo (from to : List ℕ) (old new : Tree) : Type 0 where
  pub source : NameList
  pub target : NameList
  pub leaves : named old from ≡ Some source
  pub comes : named old to ≡ Some target
  pub moved : node_at new target ≡ node_at old source
  pub gone : source ≢ target → node_at new source ≡ None
  pub others : (q : NameList) → q ≢ source → q ≢ target → node_at new q ≡ node_at old q
  pub ways : SameWays old new

-- why it isn't named, or its name not on the medium: it can't be renamed, or the root's path leads to no directory; or the disk counted a fault
abbrev pub NamingFails : Course DiskState → List ℕ → List ℕ → List ℕ → DiskFault → Type 0
NamingFails d temporary journal root disk.Absent = AsTold d.tells (CannotRename d.old temporary journal ⊎ IsNoDirectory d.old root) (DiskFailed d)
NamingFails d temporary journal root disk.Taken = ⊥
NamingFails d temporary journal root disk.Failed = DiskFailed d
NamingFails d temporary journal root disk.NoMemory = ⊤
