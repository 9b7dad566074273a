-- What a disk tells of itself.
use Rattle.std.specs.Prelude.{◌≡◌, ◌<◌, ◌+◌, ℕ, Bool, false, List, Option, Some, None, Result, IsErrOf, ◌≤◌, []}
use Rattle.sd_io.specs.declared.meta.RawEntry.{RawEntry}
use Rattle.sd_io.specs.declared.fault.DiskFault.{DiskFault}
use Rattle.sd_io.specs.declared.fault.DiskFault.TheVariants.{Absent, Taken, Failed}
use Rattle.std.specs.FinMap.{empty}
use Rattle.sd_io.specs.Tree.{NameList, Node, Tree, node_at}
use Rattle.sd_io.specs.Outcomes.{Outcomes, Leaves, own_of, content_at, never_used}
use Rattle.sd_io.specs.Count.{HasRisen}

-- An open list: whether it is at its end, and the entries that it hasn't given yet. These count only where the disk tells its tree.
pub record OpenList : Type 0 where
  pub is_at_end : Bool
  pub left : List RawEntry

-- The state of a disk. The tree, the clock and the outcomes count only where the disk tells its tree, everything else always.
pub record DiskState : Type 0 where
  pub tree : Tree
  -- rises by one with each change of the tree or of an outcome, but for devices, and names the moments
  pub clock : ℕ
  -- what a crash at each moment up to now might have left, or may leave
  pub outcomes : ℕ → Outcomes
  pub faults : ℕ
  -- how many entries the lists have given or passed over
  pub listed : ℕ
  -- the list that is open under a number
  pub open_list : ℕ → Option OpenList
  -- how many lists are open, and how many were at most
  pub open_count : ℕ
  pub open_most : ℕ

-- ---- what a crash may leave

-- what it may leave at this moment
abbrev pub outcomes_now : DiskState → Outcomes
outcomes_now state = state.outcomes state.clock

-- it may leave this image at this moment
abbrev pub MayLeave : DiskState → Tree → Type 0
MayLeave state image = (q : NameList) → Leaves (outcomes_now state q) (content_at image q)

-- it might have left this image at a moment from this one on, or may leave it now
abbrev pub MayLeaveSince : DiskState → ℕ → Tree → Type 0
MayLeaveSince state moment image = (k : ℕ) × (moment ≤ k) × (k ≤ state.clock) × ((q : NameList) → Leaves (state.outcomes k q) (content_at image q))

-- what stands at a place is one of its outcomes
pub record HoldsPresent (state : DiskState) : Type 0 where
  pub nothing : (q : NameList) → node_at state.tree q ≡ None → Leaves (outcomes_now state q) None
  pub stands : (q : NameList) (node : Node) → node_at state.tree q ≡ Some node → Leaves (own_of (outcomes_now state q)) (Some node.content)

-- one moment passes: these are the outcomes from then on
pub record Advances (old new : DiskState) (outcomes : Outcomes) : Type 0 where
  pub clock : new.clock ≡ old.clock + 1
  pub now : outcomes_now new ≡ outcomes
  pub before : (k : ℕ) → k ≤ old.clock → new.outcomes k ≡ old.outcomes k

-- ---- what a call leaves

-- the tree and what a crash may leave are as before, and no time has passed
pub record SameTree (old new : DiskState) : Type 0 where
  pub tree : new.tree ≡ old.tree
  pub clock : new.clock ≡ old.clock
  pub outcomes : new.outcomes ≡ old.outcomes

pub record SameLists (old new : DiskState) : Type 0 where
  pub listed : new.listed ≡ old.listed
  pub open_list : new.open_list ≡ old.open_list
  pub open_count : new.open_count ≡ old.open_count
  pub open_most : new.open_most ≡ old.open_most

-- ---- why a call is refused

-- The count of faults never falls. `Failed` comes only where it rose or stands at its last value; on a disk that doesn't
-- tell its tree, `Absent` and `Taken` come only where it rose.
pub record HasCause {T : Type 0} (tells : Bool) (old new : DiskState) (result : Result T DiskFault) : Type 0 where
  pub never_falls : old.faults ≤ new.faults
  pub failed : IsErrOf result Failed → HasRisen old.faults new.faults
  pub absent : tells ≡ false → IsErrOf result Absent → old.faults < new.faults
  pub taken : tells ≡ false → IsErrOf result Taken → old.faults < new.faults

-- what stands for the tree and the outcomes of a disk that doesn't tell them
abbrev pub untold_tree : Tree
untold_tree = record { nodes = empty; order = λ folder. [] }

abbrev pub untold_outcomes : ℕ → Outcomes
untold_outcomes moment place = never_used
