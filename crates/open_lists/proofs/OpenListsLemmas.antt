-- What a disk tells of its open lists after a call.
use Rattle.std.proofs.Common.{◌≡◌, ◌≢◌, ℕ, false, List, Option, Some, None, Result, Ok, Err, OnErr, IsSome, sym, ap, refl, ◌∙◌, arith}
use Rattle.std.specs.Option.{option_map}
use Rattle.std.proofs.lemmas.Bool.{false≢true}
use Rattle.sd_io.specs.declared.meta.RawEntry.{RawEntry}
use Rattle.open_lists.specs.declared.lists.OpenList.{OpenList}
use Rattle.open_lists.specs.declared.lists.OpenList.TheVariants.{Unfinished, AtEnd}
use Rattle.open_lists.specs.declared.lists.OpenLists.{OpenLists}
use Rattle.sd_io.specs.Calls.{count_after}
use Rattle.sd_io.specs.Count.{IsAtLast}
use Rattle.sd_io.specs.Tree.{Tree}
use Rattle.sd_io.specs.Outcomes.{Outcomes}
use Rattle.sd_io.specs.Disk as told
use Rattle.sd_io.specs.Disk.{SameLists}
use Rattle.sd_io.specs.Lists.{Opens, Ends, Gives}
use Rattle.open_lists.specs.OpenLists.{list_at, is_ended, SameOpenLists, ChangesOne, AddsList, PutsList, told_list, told_at, state_with, KeepsTold}

-- what holds anyway holds at an error
pub holds_on_err : {T E P : Type 0} (r : Result T E) → P → OnErr r P
holds_on_err (Ok x) p = tt
holds_on_err (Err e) p = p

module _ {L : Type 0} (left_of : L → List RawEntry) where
  -- a list that isn't at its end is told so
  pub unfinished_told : (list : Option (OpenList L)) → is_ended list ≡ false → (left : List RawEntry) × (option_map (told_list left_of) list ≡ Some (record { is_at_end = false; left = left }))
  unfinished_told None e = absurd (false≢true (sym e))
  unfinished_told (Some (Unfinished entries)) e = (left_of entries, refl)
  unfinished_told (Some AtEnd) e = absurd (false≢true (sym e))

  -- a list that is told is open
  pub open_from_told : (list : Option (OpenList L)) (t : told.OpenList) → option_map (told_list left_of) list ≡ Some t → IsSome list
  open_from_told None t e = cc
  open_from_told (Some list) t e = refl

  -- what is told of the same lists stays
  pub keeps_told : (lists : OpenLists L) → KeepsTold left_of lists lists
  keeps_told lists = record { told = refl; count = refl; most = refl; listed = refl }

  -- what is told of the list under a number stays
  pub told_each : (old new : OpenLists L) → KeepsTold left_of old new → (k : ℕ) → told_at left_of new k ≡ told_at left_of old k
  told_each old new kept k = ap (λ (at : ℕ → Option told.OpenList). at k) kept.told

  -- an open list was put at its end
  pub put_at_end : (old mid new : OpenLists L) (number : ℕ) (list : told.OpenList) → told_at left_of old number ≡ Some list → KeepsTold left_of old mid
      → (IsSome (list_at mid number) → PutsList mid number AtEnd new) → PutsList mid number AtEnd new
  put_at_end old mid new number list was kept puts = puts (open_from_told (list_at mid number) list (told_each old mid kept number ∙ was))

  -- what is told of the other lists stays, where one is changed
  pub others_told : (old mid new : OpenLists L) (number : ℕ) → KeepsTold left_of old mid → ChangesOne mid number new → (k : ℕ) → k ≢ number → told_at left_of new k ≡ told_at left_of old k
  others_told old mid new number kept changes k apart = ap (option_map (told_list left_of)) (changes.others k apart) ∙ told_each old mid kept k

  -- what is told of each list stays, where an entry is counted
  pub counted_told : (old mid new : OpenLists L) → KeepsTold left_of old mid → new ≡ record mid { listed = count_after mid.listed } → (k : ℕ) → told_at left_of new k ≡ told_at left_of old k
  counted_told old mid new kept counted k = ap (λ (lists : OpenLists L). told_at left_of lists k) counted ∙ told_each old mid kept k

module _ {L : Type 0} (left_of : L → List RawEntry) (t u : Tree) (m n : ℕ) (o p : ℕ → Outcomes) (f g : ℕ) where
  -- lists that are the same are told the same
  pub same_lists : (old new : OpenLists L) → SameOpenLists old new → SameLists (state_with left_of t m o f old) (state_with left_of u n p g new)
  same_lists old new h = record {
    listed = h.listed;
    open_list = ap (λ (at : ℕ → Option (OpenList L)). λ number. option_map (told_list left_of) (at number)) h.lists;
    open_count = h.count;
    open_most = h.most;
  }

  -- a list that was added is told as opened
  pub opens : (old new : OpenLists L) (entries : L) (number : ℕ) → AddsList old entries number new → Opens (state_with left_of t m o f old) number (state_with left_of u n p g new)
  opens old new entries number h = record {
    was_free = ap (option_map (told_list left_of)) h.was_free;
    left = left_of entries;
    opened = ap (option_map (told_list left_of)) h.opened;
    others = λ k apart. ap (option_map (told_list left_of)) (h.others k apart);
    open_count = h.count;
    open_most = h.most;
    listed = h.listed;
  }

  -- a list that was put at its end is told so
  pub ends : (old mid new : OpenLists L) (number : ℕ) → KeepsTold left_of old mid → PutsList mid number AtEnd new → Ends (state_with left_of t m o f old) number (state_with left_of u n p g new)
  ends old mid new number kept puts = record {
    listed = puts.listed ∙ kept.listed;
    left = _;
    now = ap (option_map (told_list left_of)) puts.now;
  }

  -- a list that isn't at its end gives an entry, once it is counted
  pub gives : (old mid new : OpenLists L) (number : ℕ) → is_ended (list_at old number) ≡ false → KeepsTold left_of old mid → new ≡ record mid { listed = count_after mid.listed }
      → (IsAtLast old.listed → ⊥) → Gives (state_with left_of t m o f old) number (state_with left_of u n p g new)
  gives old mid new number unfinished kept counted below = record {
    left = was.0;
    was = was.1;
    rest = was.0;
    passes = record {
      listed = ap (λ (lists : OpenLists L). lists.listed) counted ∙ (ap count_after kept.listed ∙ omega arith);
      now = counted_told left_of old mid new kept counted number ∙ was.1;
    };
  }
    where
      was : (left : List RawEntry) × (told_at left_of old number ≡ Some (record { is_at_end = false; left = left }))
      was = unfinished_told left_of (list_at old number) unfinished
