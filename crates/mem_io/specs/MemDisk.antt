-- What a disk in memory tells.
use Rattle.std.specs.Prelude.{◌≡◌, ◌≢◌, ◌+◌, ◌⊎◌, ℕ, true, false, List, [], ◌∷◌, length, reverse, Option, Some, None, Result, Err, IsErrOf}
use Rattle.std.specs.Global.{Vec}
use Rattle.sd_io.specs.declared.meta.RawEntry.{RawEntry}
use Rattle.sd_io.specs.Disk as told
use Rattle.sd_io.specs.Outcomes.{built, put}
use Rattle.sd_io.specs.Disk.{DiskState, SameTree, SameLists, HasCause, Advances, outcomes_now}
use Rattle.sd_io.specs.declared.fault.DiskFault.{DiskFault}
use Rattle.sd_io.specs.declared.fault.DiskFault.TheVariants.{Failed}
use Rattle.sd_io.specs.Calls.{count_after, FailsAt}
use Rattle.sd_io.specs.Lists.{IsUnfinished, IsFull, Passes, Ends, HasNoneLeft}
use Rattle.sd_io.specs.Tree.{NameList, Content, directory, file, Node, Tree, node_at}
use Rattle.sd_io.specs.Paths.{named, reached_plain}
use Rattle.sd_io.specs.Files.{file_of}
use Rattle.mem_io.specs.MemTree.{tree_of, IsFreePlace, Adds, AddsName}
use Rattle.mem_io.specs.Log.{outcomes_by, after_device}
use Rattle.open_lists.specs.OpenLists.{state_with}
use Rattle.mem_io.specs.declared.disk.MemDisk.{MemDisk}

-- what is left of a list: its next entry stands last
abbrev pub left_entries : Vec RawEntry → List RawEntry
left_entries entries = reverse entries.items

-- the next entry of a list that isn't at its end is taken
pub record TakesLast (old : told.OpenList) (entry : RawEntry) (new : told.OpenList) : Type 0 where
  pub rest : List RawEntry
  pub was : old ≡ record { is_at_end = false; left = entry ∷ rest }
  pub now : new ≡ record { is_at_end = false; left = rest }

abbrev pub mem_state : MemDisk → DiskState
mem_state d =
    let past = d.medium.log in
    let changes = past.changes.items in
    state_with left_entries (tree_of d.medium.tree.top d.medium.tree.nodes.entries) (length changes) (outcomes_by past.first_dev changes) d.counter.faults d.lists

-- the calls that are to fail, by their numbers
abbrev pub failing_calls : MemDisk → List ℕ
failing_calls d = d.counter.failing.items

-- the call from which all are to fail
abbrev pub stop_of : MemDisk → Option ℕ
stop_of d = d.counter.stop

-- how many calls were counted
abbrev pub calls_of : MemDisk → ℕ
calls_of d = d.counter.calls

-- the inode number of the next node that is added
abbrev pub next_number : MemDisk → ℕ
next_number d = d.medium.tree.next_ino

-- ---- a new disk

-- the top stands alone: a directory of device 1 and inode 1
pub record IsTopAlone (tree : Tree) : Type 0 where
  pub top : node_at tree [] ≡ Some (record { content = directory; dev = 1; ino = 1 })
  pub others : (q : NameList) → q ≢ [] → node_at tree q ≡ None
  pub orders : (folder : NameList) → tree.order folder ≡ []

-- no call was counted or is to fail, and no list was opened
pub record IsUncalled (d : MemDisk) : Type 0 where
  pub calls : calls_of d ≡ 0
  pub failing : failing_calls d ≡ []
  pub stop : stop_of d ≡ None
  pub faults : (mem_state d).faults ≡ 0
  pub listed : (mem_state d).listed ≡ 0
  pub open_list : (number : ℕ) → (mem_state d).open_list number ≡ None
  pub open_count : (mem_state d).open_count ≡ 0
  pub open_most : (mem_state d).open_most ≡ 0

-- and no time has passed
pub record IsUnused (d : MemDisk) : Type 0 where
  pub uncalled : IsUncalled d
  pub clock : (mem_state d).clock ≡ 0

-- ---- what the builders do

-- the faults, the lists, the counts and the calls that are to fail are as before
pub record KeepsCounts (old new : MemDisk) : Type 0 where
  pub faults : (mem_state new).faults ≡ (mem_state old).faults
  pub lists : SameLists (mem_state old) (mem_state new)
  pub calls : calls_of new ≡ calls_of old
  pub failing : failing_calls new ≡ failing_calls old
  pub stop : stop_of new ≡ stop_of old

-- A node of this content stands at the free place of the path, with its folder's device and the next inode number. A crash leaves it.
pub record Builds (old : MemDisk) (path : List ℕ) (content : Content) (new : MemDisk) : Type 0 where
  pub place : NameList
  pub was_free : IsFreePlace (mem_state old).tree path place
  pub adds : Adds (mem_state old).tree place content (next_number old) (mem_state new).tree
  pub order : AddsName (mem_state old).tree place (mem_state new).tree
  pub number : next_number new ≡ next_number old + 1
  pub node : Node
  pub stands : node_at (mem_state new).tree place ≡ Some node
  pub advances : Advances (mem_state old) (mem_state new) (put place (built node) (outcomes_now (mem_state old)))

-- An empty file with the mode of the one that `like` leads to stands at the place that the path names, with its folder's device and the
-- next inode number; its name comes last.
pub record BuildsLike (old : MemDisk) (path like : List ℕ) (new : MemDisk) : Type 0 where
  pub place : NameList
  pub names : named (mem_state old).tree path ≡ Some place
  pub bytes : List ℕ
  pub mode : ℕ
  pub model : file_of (mem_state old).tree like ≡ Some (bytes, mode)
  pub adds : Adds (mem_state old).tree place (file [] mode) (next_number old) (mem_state new).tree
  pub order : AddsName (mem_state old).tree place (mem_state new).tree
  pub number : next_number new ≡ next_number old + 1

-- Every node that a crash may leave where the path leads, no link followed, or below has this device, and so has every node that a crash might have
-- left there at an earlier moment: a device belongs to a place, and to no change. What else each moment tells stays, and no time passes.
pub record SetsDevice (old : DiskState) (path : List ℕ) (dev : ℕ) (new : DiskState) : Type 0 where
  pub place : NameList
  pub leads : reached_plain old.tree path ≡ Some place
  pub clock : new.clock ≡ old.clock
  pub outcomes : (moment : ℕ) → new.outcomes moment ≡ after_device place dev (old.outcomes moment)

-- the tree and the next number are as before
pub record KeepsTree (old new : MemDisk) : Type 0 where
  pub tree : SameTree (mem_state old) (mem_state new)
  pub number : next_number new ≡ next_number old

-- ---- what the counted calls do

-- the next call is to fail
abbrev pub IsToFail : MemDisk → Type 0
IsToFail d = FailsAt (failing_calls d) (stop_of d) (count_after (calls_of d))

-- One more call is counted, and one more fault just where it answers `Failed`; its refusal has its cause.
pub record CountsCall {T : Type 0} (old : MemDisk) (result : Result T DiskFault) (new : MemDisk) : Type 0 where
  pub calls : calls_of new ≡ count_after (calls_of old)
  pub failing : failing_calls new ≡ failing_calls old
  pub stop : stop_of new ≡ stop_of old
  pub failed : IsErrOf result Failed → (mem_state new).faults ≡ count_after (mem_state old).faults
  pub not_failed : result ≢ Err Failed → (mem_state new).faults ≡ (mem_state old).faults
  pub cause : HasCause true (mem_state old) (mem_state new) result

-- the list isn't at its end, and the call is to fail or the count of listed entries stands at its last value
abbrev pub FailsToGive : MemDisk → ℕ → Type 0
FailsToGive d number = IsUnfinished (mem_state d) number × (IsToFail d ⊎ IsFull (mem_state d))

-- the next entry of a list is taken
pub record TakesNext (old : DiskState) (number : ℕ) (entry : RawEntry) (new : DiskState) : Type 0 where
  pub rest : List RawEntry
  pub was : old.open_list number ≡ Some (record { is_at_end = false; left = entry ∷ rest })
  pub passes : Passes old number rest new

-- The next entry is passed over; where none is left, or the count of listed entries stands at its last value, the list is put at its end.
abbrev pub Skips : DiskState → ℕ → DiskState → Type 0
Skips old number new =
    ((IsFull old → ⊥) × (entry : RawEntry) × TakesNext old number entry new) ⊎ ((HasNoneLeft old number ⊎ IsFull old) × Ends old number new)
