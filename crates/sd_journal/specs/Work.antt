-- What a journalled sweep is to change.
use Rattle.std.specs.Prelude.{◌≡◌, ◌≢◌, ◌↔◌, ◌++◌, ◌∷◌, [], ℕ, List, map, Some, None, Contains}
use Rattle.std.specs.List.{filter}
use Rattle.sd_io.specs.Tree.{NameList, Tree, node_at, file_at}
use Rattle.sd_io.specs.Lists.{directory_of}
use Rattle.sd_io.specs.Disk.{DiskState}
use Rattle.sd_change.specs.Change.{Change, FileChange}
use Rattle.file_exchange.specs.Crash.{Exchange}
use Rattle.change_phases.specs.Between.{Work, IsWork, journal_name}
use Rattle.change_phases.specs.Recovery.{IsOnMedium}
use Rattle.sd_plan.specs.declared.line.PlanLine.{PlanLine}
use Rattle.planned_files.specs.Planned.{path_of}

-- the paths of a plan's lines whose files change
abbrev pub changed_paths : List PlanLine → List (List ℕ)
changed_paths lines = map path_of (filter (λ (line : PlanLine). line.changed) lines)

-- one of the files, of whose bytes the change makes these new ones, which are others
pub record IsChangedFile (change : Change) (IsOne : NameList → Type 0) (tree : Tree) (f : Exchange) : Type 0 where
  pub one : IsOne f.0
  pub bytes : List ℕ
  pub mode : ℕ
  pub was : file_at tree f.0 ≡ Some (bytes, mode)
  pub count : ℕ
  pub new_bytes : FileChange change bytes f.1 count
  pub differ : f.1 ≢ bytes

-- The tree as it is, the folder that the root leads to, and exactly those of the files whose bytes change, with their new bytes.
pub record IsWorkOf (change : Change) (IsOne : NameList → Type 0) (root : List ℕ) (tree : Tree) (work : Work) : Type 0 where
  pub is_work : IsWork work
  pub tree_is : work.tree ≡ tree
  pub leads : directory_of work.tree root ≡ Some work.root
  pub these : (f : Exchange) → Contains work.files f ↔ IsChangedFile change IsOne tree f

-- each crash leaves the disk as it stands, and in the folder that the root leads to no journal stands
pub record IsFresh (root : List ℕ) (state : DiskState) : Type 0 where
  pub on_medium : IsOnMedium state
  pub no_journal : (folder : NameList) → directory_of state.tree root ≡ Some folder → node_at state.tree (folder ++ journal_name ∷ []) ≡ None
