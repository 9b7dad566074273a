-- What a sweep does that leaves out what rules ignore, and how it ends.
use Rattle.std.specs.Prelude.{◌≡◌, ◌≤◌, ℕ, IsTrue, List, Some, None, Result, Ok, Err, IfOk, IfErr, OnOk, ⊤}
use Rattle.std.specs.Str.{IsUtf8}
use Rattle.sd_io.specs.Tree.{Tree}
use Rattle.sd_io.specs.Files.{file_of}
use Rattle.sd_io.specs.Disk.{DiskState, SameTree, SameLists}
use Rattle.sd_io.specs.Streams.{SinkState}
use Rattle.sd_change.specs.Change.{Change}
use Rattle.sd_course.specs.Course.{Course, course, DiskFailed}
use Rattle.file_rewrite.specs.OneFile.{IsFileFault}
use Rattle.sd_ignore.specs.Reading.{bad_line, rules_of}
use Rattle.sd_ignore.specs.declared.rule.Rule.{Rule}
use Rattle.chosen_files.specs.Seen.{ListsOnlySeen}
use Rattle.many_files.specs.declared.report.Report.{Report}
use Rattle.sd_core.specs.Printing.{EndsBy}
use Rattle.sd_core.specs.Report.{line_of}
use Rattle.sd_core.specs.Selection.{by_rules}
use Rattle.sd_core.specs.Sweep.{Sweeps, sweep_cap}
use Rattle.sd_core.specs.declared.error.Error.{Error}
use Rattle.sd_core.specs.declared.error.Error.TheVariants as error
use Rattle.sd_core.specs.declared.ended.Why.{Why}

-- A sweep of the files that the rules don't ignore. Where no fault was counted, exactly the entries of the root, and of the directories below it that
-- aren't ignored, were listed: no ignored directory was read.
pub record SweepsKept (change : Change) (root : List ℕ) (globs : List (List ℕ)) (rules : List Rule) (same_disk : Type 0) (result : Result Report Error) (d : Course DiskState) : Type 0 where
  pub sweeps : Sweeps change (by_rules root globs rules) sweep_cap same_disk result d
  pub only_seen : IsTrue d.tells → (DiskFailed d → ⊥) → OnOk result (ListsOnlySeen d.old.tree root rules d.old.listed d.new.listed)

-- ---- the rules that a file holds

-- at the path stands a regular file, links followed, of UTF-8 text without a bad line, which has these rules
pub record HoldsRules (tree : Tree) (path : List ℕ) (rules : List Rule) : Type 0 where
  pub text : List ℕ
  pub mode : ℕ
  pub is_file : file_of tree path ≡ Some (text, mode)
  pub is_text : IsUtf8 text
  pub good : bad_line text ≡ None
  pub rules_are : rules ≡ rules_of text

-- one stands there whose bytes aren't UTF-8
pub record HoldsNoText (tree : Tree) (path : List ℕ) : Type 0 where
  pub bytes : List ℕ
  pub mode : ℕ
  pub is_file : file_of tree path ≡ Some (bytes, mode)
  pub no_text : IsUtf8 bytes → ⊥

-- one stands there of UTF-8 text, in which the line with this number is the first that is bad
pub record HoldsBadRule (tree : Tree) (path : List ℕ) (number : ℕ) : Type 0 where
  pub text : List ℕ
  pub mode : ℕ
  pub is_file : file_of tree path ≡ Some (text, mode)
  pub is_text : IsUtf8 text
  pub bad : bad_line text ≡ Some number

-- Why no rules are read of a file.
abbrev pub RulesNotRead : List ℕ → Course DiskState → Error → Type 0
RulesNotRead path d (error.File fault) = IsFileFault d path fault
RulesNotRead path d error.RulesNotText = IsTrue d.tells → HoldsNoText d.old.tree path
RulesNotRead path d (error.BadRule number) = IsTrue d.tells → HoldsBadRule d.old.tree path number
RulesNotRead path d error.NoMemory = ⊤
RulesNotRead path d _ = ⊥

-- What the reading of rules promises at each of its ends.
pub record ReadsRules (path : List ℕ) (result : Result (List Rule) Error) (d : Course DiskState) : Type 0 where
  pub held : IsTrue d.tells → IfOk result (HoldsRules d.old.tree path)
  pub fails : IfErr result (RulesNotRead path d)
  pub same : SameTree d.old d.new
  pub lists : SameLists d.old d.new
  pub never_falls : d.old.faults ≤ d.new.faults
  pub complete : IsTrue d.tells → (DiskFailed d → ⊥) → (rules : List Rule) → HoldsRules d.old.tree path rules → IfErr result (λ failed. failed ≡ error.NoMemory)

-- ---- both, one after the other

-- The tree is swept under the rules that were read; where none were read, nothing more is done.
abbrev pub ThenSweeps : Change → List ℕ → List (List ℕ) → Result (List Rule) Error → Result Report Error → Course DiskState → Type 0
ThenSweeps change root globs (Ok rules) result d = SweepsKept change root globs rules (d.new ≡ d.old) result d
ThenSweeps change root globs (Err failed) result d = (result ≡ Err failed) × (d.new ≡ d.old)

-- What a sweep under the rules that a file holds promises: the file is read, which leaves the tree as it is, and then the tree is swept.
pub record SweepsByFile (change : Change) (root : List ℕ) (globs : List (List ℕ)) (path : List ℕ) (result : Result Report Error) (d : Course DiskState) : Type 0 where
  pub read : Result (List Rule) Error
  pub between : DiskState
  pub reads : ReadsRules path read (course d.tells d.old between)
  pub sweeps : ThenSweeps change root globs read result (course d.tells between d.new)

-- ---- as a command

-- The command is such a sweep, whose report is printed.
pub record IgnoreCommand (change : Change) (root : List ℕ) (globs : List (List ℕ)) (path : List ℕ) (same_out : Type 0) (d : Course DiskState) (out : Course SinkState) (ended : Why) : Type 0 where
  pub result : Result Report Error
  pub sweeps : SweepsByFile change root globs path result d
  pub prints : EndsBy line_of result same_out out ended
