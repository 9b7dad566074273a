-- An entry is found by listing its folder.
use Rattle.std.specs.Prelude.{◌≡◌, ◌≤◌, ◌+◌, ◌++◌, ◌∷◌, [], ℕ, max, false, List, Option, Some, option_map, ⊤}
use Rattle.sd_io.specs.declared.meta.RawEntry.{RawEntry}
use Rattle.sd_io.specs.declared.meta.Kind.{Kind}
use Rattle.sd_io.specs.declared.fault.DiskFault.{DiskFault}
use Rattle.sd_io.specs.declared.fault.DiskFault.TheVariants as disk
use Rattle.sd_io.specs.Tree.{Name, NameList, Tree, node_at}
use Rattle.sd_io.specs.Files.{kind_of}
use Rattle.sd_io.specs.Lists.{TellAll, directory_of}
use Rattle.sd_io.specs.Disk.{DiskState}
use Rattle.sd_course.specs.Course.{Course, AsTold, DiskFailed}

-- the kind of what stands at a place
abbrev pub kind_at : Tree → NameList → Option Kind
kind_at tree place = option_map (λ node. kind_of node.content) (node_at tree place)

-- the path leads to a directory, and this is the kind of what stands in it under the name
pub record FindsEntry (tree : Tree) (path : List ℕ) (name : Name) (found : Option Kind) : Type 0 where
  pub folder : NameList
  pub leads : directory_of tree path ≡ Some folder
  pub kind_is : found ≡ kind_at tree (folder ++ name ∷ [])

-- the list that is open under the number has all entries of the folder
pub record ListsFolder (state : DiskState) (number : ℕ) (folder : NameList) : Type 0 where
  pub left : List RawEntry
  pub opened : state.open_list number ≡ Some (record { is_at_end = false; left = left })
  pub entries : TellAll state.tree folder (state.tree.order folder) left

-- Why a look at the disk is refused: what it looks for is absent, for this cause alone where the disk tells its tree; or the disk counted a fault, or there
-- is no memory left.
abbrev pub LookFails : Course DiskState → Type 0 → DiskFault → Type 0
LookFails d absent disk.Absent = AsTold d.tells absent (DiskFailed d)
LookFails d absent disk.Taken = ⊥
LookFails d absent disk.Failed = DiskFailed d
LookFails d absent disk.NoMemory = ⊤

-- The same lists are open as before, and at most one more was open in between. The count of listed entries didn't fall.
pub record LeavesLists (old new : DiskState) : Type 0 where
  pub open_list : (number : ℕ) → new.open_list number ≡ old.open_list number
  pub open_count : new.open_count ≡ old.open_count
  pub open_most : new.open_most ≤ max old.open_most (old.open_count + 1)
  pub listed : old.listed ≤ new.listed
