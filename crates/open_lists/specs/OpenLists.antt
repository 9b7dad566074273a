-- The open lists of a disk by their numbers.
use Rattle.std.specs.Prelude.{◌≡◌, ◌≢◌, ◌+◌, ℕ, Bool, true, false, max, if◌then◌else◌, List, [], ◌∷◌, Option, Some, None, is_some}
use Rattle.std.specs.Option.{option_map}
use Rattle.std.specs.Ordering.{nat_cmp}
use Rattle.std.specs.BTreeMap.{get, btree_map_len}
use Rattle.sd_io.specs.declared.meta.RawEntry.{RawEntry}
use Rattle.open_lists.specs.declared.lists.OpenList.{OpenList}
use Rattle.open_lists.specs.declared.lists.OpenList.TheVariants.{Unfinished, AtEnd}
use Rattle.open_lists.specs.declared.lists.OpenLists.{OpenLists}
use Rattle.sd_io.specs.Calls.{count_after}
use Rattle.sd_io.specs.Tree.{Tree}
use Rattle.sd_io.specs.Outcomes.{Outcomes}
use Rattle.sd_io.specs.Disk as told
use Rattle.sd_io.specs.Disk.{DiskState}

module _ {L : Type 0} where
  -- the list that is open under a number
  abbrev pub list_at : OpenLists L → ℕ → Option (OpenList L)
  list_at lists number = get nat_cmp lists.open number

  -- how many lists are open
  abbrev pub open_count : OpenLists L → ℕ
  open_count lists = btree_map_len lists.open

  -- there is no list, or it is at its end
  abbrev pub is_ended : Option (OpenList L) → Bool
  is_ended None = true
  is_ended (Some (Unfinished entries)) = false
  is_ended (Some AtEnd) = true

  -- ---- what the calls do

  -- the lists and the counts are as before
  pub record SameOpenLists (old new : OpenLists L) : Type 0 where
    pub lists : list_at new ≡ list_at old
    pub count : open_count new ≡ open_count old
    pub most : new.most ≡ old.most
    pub listed : new.listed ≡ old.listed

  -- every other list is as before
  abbrev pub SameBesides : OpenLists L → ℕ → OpenLists L → Type 0
  SameBesides old number new = (k : ℕ) → k ≢ number → list_at new k ≡ list_at old k

  -- no list is opened or closed, and at most the one under this number is changed
  pub record ChangesOne (old : OpenLists L) (number : ℕ) (new : OpenLists L) : Type 0 where
    pub others : SameBesides old number new
    pub count : open_count new ≡ open_count old
    pub most : new.most ≡ old.most

  -- a list of these entries is open under a number that was free; it isn't at its end
  pub record AddsList (old : OpenLists L) (entries : L) (number : ℕ) (new : OpenLists L) : Type 0 where
    pub was_free : list_at old number ≡ None
    pub opened : list_at new number ≡ Some (Unfinished entries)
    pub others : SameBesides old number new
    pub count : open_count new ≡ open_count old + 1
    pub most : new.most ≡ max old.most (open_count new)
    pub listed : new.listed ≡ old.listed

  -- the open list under a number is this one now
  pub record PutsList (old : OpenLists L) (number : ℕ) (list : OpenList L) (new : OpenLists L) : Type 0 where
    pub now : list_at new number ≡ Some list
    pub one : ChangesOne old number new
    pub listed : new.listed ≡ old.listed

  -- no list is open under the number
  pub record DropsList (old : OpenLists L) (number : ℕ) (new : OpenLists L) : Type 0 where
    pub closed : list_at new number ≡ None
    pub others : SameBesides old number new
    pub count : open_count new + (if is_some (list_at old number) then 1 else 0) ≡ open_count old
    pub most : new.most ≡ old.most
    pub listed : new.listed ≡ old.listed

  -- ---- what a disk tells of its lists, by what it tells of the entries that are left of one

  module _ (left_of : L → List RawEntry) where
    abbrev pub told_list : OpenList L → told.OpenList
    told_list (Unfinished entries) = record { is_at_end = false; left = left_of entries }
    told_list AtEnd = record { is_at_end = true; left = [] }

    abbrev pub told_at : OpenLists L → ℕ → Option told.OpenList
    told_at lists number = option_map told_list (list_at lists number)

    -- what a disk tells with these lists
    abbrev pub state_with : Tree → ℕ → (ℕ → Outcomes) → ℕ → OpenLists L → DiskState
    state_with tree clock outcomes faults lists = record {
      tree = tree;
      clock = clock;
      outcomes = outcomes;
      faults = faults;
      listed = lists.listed;
      open_list = told_at lists;
      open_count = open_count lists;
      open_most = lists.most;
    }

    -- the next entry of a list that isn't at its end is taken and counted
    pub record TakesEntry (old : OpenLists L) (number : ℕ) (entry : RawEntry) (new : OpenLists L) : Type 0 where
      pub rest : List RawEntry
      pub was : told_at old number ≡ Some (record { is_at_end = false; left = entry ∷ rest })
      pub now : told_at new number ≡ Some (record { is_at_end = false; left = rest })
      pub one : ChangesOne old number new
      pub listed : new.listed ≡ count_after old.listed

    -- a list with nothing left is put at its end
    pub record EndsList (old : OpenLists L) (number : ℕ) (new : OpenLists L) : Type 0 where
      pub at_end : Bool
      pub was : told_at old number ≡ Some (record { is_at_end = at_end; left = [] })
      pub now : told_at new number ≡ Some (record { is_at_end = true; left = [] })
      pub one : ChangesOne old number new
      pub listed : new.listed ≡ old.listed

    -- what the disk tells of its lists is as before
    pub record KeepsTold (old new : OpenLists L) : Type 0 where
      pub told : told_at new ≡ told_at old
      pub count : open_count new ≡ open_count old
      pub most : new.most ≡ old.most
      pub listed : new.listed ≡ old.listed
