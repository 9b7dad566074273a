-- What a report counts.
use Rattle.std.specs.Prelude.{◌≡◌, ◌+◌, ℕ, List, [], ◌∷◌, length, Contains, Some, Result, Ok, Err, if◌then◌else◌}
use Rattle.std.specs.Str.{bytes_eq}
use Rattle.sd_io.specs.Tree.{NameList, Tree, node_at, file_at}
use Rattle.sd_io.specs.Disk.{DiskState}
use Rattle.sd_change.specs.Change.{Change}
use Rattle.file_rewrite.specs.declared.rewrite.Rewrite.{Rewrite}
use Rattle.file_rewrite.specs.declared.fault.JobFault.{JobFault}
use Rattle.many_files.specs.Rewritten.{IsRewritten}
use Rattle.many_files.specs.declared.report.Report.{Report}

-- 1 where the new bytes are others than the old ones, else 0
abbrev pub change_count : List ℕ → List ℕ → ℕ
change_count bytes new_bytes = if bytes_eq new_bytes bytes then 0 else 1

-- what the file at the place adds: whether its bytes change, and how many spans are replaced
pub record CountsFile (change : Change) (tree : Tree) (place : NameList) (changed replaced : ℕ) : Type 0 where
  pub bytes : List ℕ
  pub mode : ℕ
  pub is_file : file_at tree place ≡ Some (bytes, mode)
  pub new_bytes : List ℕ
  pub new_bytes_are : change bytes new_bytes replaced
  pub changed_is : changed ≡ change_count bytes new_bytes

-- how many of the files change, and how many spans are replaced in all of them
abbrev pub CountsFiles : Change → Tree → List NameList → ℕ → ℕ → Type 0
CountsFiles change tree [] changed replaced = (changed ≡ 0) × (replaced ≡ 0)
CountsFiles change tree (place ∷ places) changed replaced =
    (one count rest_changed rest_replaced : ℕ) × CountsFile change tree place one count
    × CountsFiles change tree places rest_changed rest_replaced × (changed ≡ one + rest_changed) × (replaced ≡ count + rest_replaced)

-- the report counts these files
pub record Counts (change : Change) (tree : Tree) (places : List NameList) (report : Report) : Type 0 where
  pub chosen : report.chosen ≡ length places
  pub files : CountsFiles change tree places report.changed report.replaced

-- Each of these files is rewritten, nothing stands otherwise at any other place, and the report counts them.
pub record RewritesFiles (change : Change) (places : List NameList) (report : Report) (old new : DiskState) : Type 0 where
  pub each : (place : NameList) → Contains places place → IsRewritten change old new place
  pub others : (place : NameList) → (Contains places place → ⊥) → node_at new.tree place ≡ node_at old.tree place
  pub counts : Counts change old.tree places report

-- ---- what one file adds to the counts so far

abbrev pub changed_by : Result Rewrite JobFault → ℕ
changed_by (Ok rewrite) = if rewrite.changed then 1 else 0
changed_by (Err fault) = 0

abbrev pub replaced_by : Result Rewrite JobFault → ℕ
replaced_by (Ok rewrite) = rewrite.replaced
replaced_by (Err fault) = 0
