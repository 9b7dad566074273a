-- A directory that is read whole.
use Rattle.std.proofs.Common.{rules, ◌≡◌, ◌+◌, ◌<◌, ◌≤◌, ◌⊎◌, ℕ, Bool, true, false, cond, List, [], ◌∷◌, ◌++◌, length, map, Some, refl, sym, ◌∙◌, ap, subst, inl, inr, arith, append-nil}
use Rattle.std.proofs.lemmas.List.{map-append}
use Rattle.std.specs.declared.cmp.Ordering.{Ordering}
use Rattle.std.specs.Ordering.{is_lt}
use Rattle.std.specs.Cmp.{IsTotalOrder}
use Rattle.sd_io.specs.Count.{HasRisen}
use Rattle.sd_io.specs.Tree.{Tree}
use Rattle.std.specs.Prelude.{Result, Err, IsTrue, IsSome, is_some}
use Rattle.std.proofs.lemmas.Bool.{cases_Bool}
use Rattle.sd_io.specs.Disk.{DiskState, SameLists, HasCause}
use Rattle.sd_io.specs.declared.meta.ListId.{ListId}
use Rattle.sd_io.specs.declared.fault.DiskFault.{DiskFault}
use Rattle.sd_io.specs.declared.fault.DiskFault.TheVariants.{Absent, Taken, Failed, NoMemory}
use Rattle.sd_io.specs.Lists.{ListsDirectory, IsNoDirectory, directory_of}
use Rattle.walk_rest.specs.declared.entry.DirEntry.{DirEntry}
use Rattle.walk_rest.specs.declared.level.Folder.{Folder}
use Rattle.walk_rest.specs.declared.level.Due.{Due}
use Rattle.walk_rest.specs.Plan.{Manner, IsContents, ListsNames, in_order, insert, sorted, entry_below}
use Rattle.walk_rest.specs.Level.{LeavesLists, IsAllowed, Loses, ReadsFolder, fault_of, left_in, listing_faults}
use Rattle.walk_rest.specs.Read.{ReadsList}
use Rattle.walk_rest.specs.Sorting.{IsSublist}
use Rattle.walk_rest.proofs.read.SortLemmas.{sublist_sorted}
use Rattle.walk_rest.proofs.read.ReadLemmas.{sublist_same, sublist_none}
use Rattle.walk_rest.proofs.laws.PlanLemmas.{names_same}

length_insert : {X : Type 0} (compare : X → X → Ordering) (x : X) (ys : List X) → length (insert compare x ys) ≡ length ys + 1
length_insert compare x [] = refl
length_insert {X} compare x (y ∷ ys) = by (length_insert compare x ys) (is_lt (compare y x))
  where
    by : length (insert compare x ys) ≡ length ys + 1 → (b : Bool) → length (cond b (y ∷ insert compare x ys) (x ∷ y ∷ ys)) ≡ length (y ∷ ys) + 1
    by e true = omega (arith, e)
    by e false = omega arith

length_sorted : {X : Type 0} (compare : X → X → Ordering) (xs : List X) → length (sorted compare xs) ≡ length xs
length_sorted compare [] = refl
length_sorted compare (x ∷ xs) = let e = length_sorted compare xs in let f = length_insert compare x (sorted compare xs) in omega (arith, e, f)

length_order : (manner : Manner) (xs : List DirEntry) → length (in_order manner xs) ≡ length xs
length_order manner xs = by manner.sorts
  where
    by : (b : Bool) → length (cond b (sorted manner.compare xs) xs) ≡ length xs
    by true = length_sorted manner.compare xs
    by false = refl

order_sublist : (manner : Manner) → IsTotalOrder manner.compare → (xs ys : List DirEntry) → IsSublist xs ys → IsSublist (in_order manner xs) (in_order manner ys)
order_sublist manner total xs ys h = by manner.sorts
  where
    by : (b : Bool) → IsSublist (cond b (sorted manner.compare xs) xs) (cond b (sorted manner.compare ys) ys)
    by true = sublist_sorted manner.compare total xs ys h
    by false = h

-- at `max_depth` nothing is read
pub read_too_deep : (old : DiskState) (tree : Tree) (manner : Manner) (folder : Folder) (due : List Due) (inner left : List DirEntry)
    → manner.options.max_depth ≤ folder.depth → IsContents tree manner folder inner → left ≡ [] → ReadsFolder old folder due inner old due left
read_too_deep old tree manner folder due inner left deep (inr l) e = let s = l.shallow in absurd (omega (arith, deep, s))
read_too_deep old tree manner folder due inner left deep (inl n) e =
    rw (e, n.1) (record {
      cuts = 0;
      loses = record { left = sublist_same []; whole = λ _. refl };
      faults = [];
      now_are = sym (append-nil _);
      comes = inl refl;
      allowed = inl (omega arith);
      listed = λ _. omega arith;
    })

-- its list was opened, read and closed, and what came was put in order
pub read_whole : (old mid now new : DiskState) (manner : Manner) (folder : Folder) (number : ℕ) (due now_due : List Due) (inner entries left : List DirEntry)
    → IsTotalOrder manner.compare → folder.depth < manner.options.max_depth → IsContents old.tree manner folder inner → ListsDirectory old folder.path number mid
    → mid.listed ≡ old.listed → old.faults ≤ mid.faults → ReadsList mid number folder due now now_due entries → new.listed ≡ now.listed → new.faults ≡ now.faults
    → left ≡ in_order manner entries → ReadsFolder old folder due inner new now_due left
read_whole old mid now new manner folder number due now_due inner entries left total shallow (inl n) lists count risen read after same ordered = let deep = n.0 in absurd (omega (arith, deep, shallow))
read_whole old mid now new manner folder number due now_due inner entries left total shallow (inr l) lists count risen read after same ordered =
    let f = entry_below folder in
    let told : ListsNames old.tree folder.path lists.left = record { folder = lists.folder; leads = lists.leads; told = lists.entries } in
    let raws : lists.left ≡ l.listed = names_same old.tree folder.path lists.left l.listed told l.names in
    let all : map f (left_in (mid.open_list number)) ≡ map f l.listed = ap (λ o. map f (left_in o)) lists.opened ∙ ap (map f) raws in
    let loses : Loses read.cuts (map f l.listed) entries = (let P : List DirEntry → Type 0 = λ es. Loses read.cuts es entries in subst P all read.loses) in
    let sub : IsSublist left inner = rw (ordered, l.ordered) (order_sublist manner total entries (map f l.listed) loses.left) in
    record {
      cuts = read.cuts;
      loses = record { left = sub; whole = λ none. ordered ∙ (ap (in_order manner) (loses.whole none) ∙ sym l.ordered) };
      faults = listing_faults (folder.depth + 1) read.cuts;
      now_are = read.now_are;
      comes = inl refl;
      allowed = allow read.cuts mid.faults now.faults read.allowed refl refl;
      listed = λ none.
          (let a = read.listed none in
          let b : length entries ≡ length inner = ap length (loses.whole none) ∙ (sym (length_order manner (map f l.listed)) ∙ ap length (sym l.ordered)) in
          omega (arith, a, b, count, after));
    }
  where
    allow : (n b c : ℕ) → IsAllowed n b c → b ≡ mid.faults → c ≡ now.faults → IsAllowed n old.faults new.faults
    allow n b c (inl h) e k = inl (omega (arith, h, e, k, risen, same))
    allow n b c (inr h) e k = inr (omega (arith, h, k, same))

-- opening it failed
pub read_not_opened : (old new : DiskState) (folder : Folder) (due now_due : List Due) (fault : Due) (inner left : List DirEntry)
    → old.faults ≤ new.faults → HasRisen old.faults new.faults → now_due ≡ due ++ fault ∷ [] → fault_of fault ≡ record { path = Some folder.path; depth = folder.depth } → left ≡ []
    → ReadsFolder old folder due inner new now_due left
read_not_opened old new folder due now_due fault inner left later risen snoc is e =
    rw e (record {
      cuts = 1;
      loses = record { left = sublist_none inner; whole = λ z. absurd (omega (arith, z)) };
      faults = record { path = Some folder.path; depth = folder.depth } ∷ [];
      now_are = rw (snoc, map-append fault_of due (fault ∷ []), is) refl;
      comes = inr (refl, refl, refl);
      allowed = one risen;
      listed = λ z. absurd (omega (arith, z));
    })
  where
    one : HasRisen old.faults new.faults → IsAllowed 1 old.faults new.faults
    one (inl h) = inl (omega (arith, h))
    one (inr h) = inr h

-- a directory that holds entries is there
pub is_there : (tree : Tree) (manner : Manner) (folder : Folder) (inner : List DirEntry) → folder.depth < manner.options.max_depth → IsContents tree manner folder inner → IsSome (directory_of tree folder.path)
is_there tree manner folder inner shallow (inl n) = let deep = n.0 in absurd (omega (arith, deep, shallow))
is_there tree manner folder inner shallow (inr l) = ap is_some l.names.leads

-- nothing was opened
pub same_leaves : (old new : DiskState) → SameLists old new → LeavesLists old new
same_leaves old new same = let e = same.open_most in record {
  open_list = λ number. ap (λ lists. lists number) same.open_list;
  open_count = same.open_count;
  open_most = rw e (search rules);
}

-- a refusal of opening a directory was counted, if it is there wherever the disk tells its tree
pub refused_risen : (tells : Bool) (old new : DiskState) (path : List ℕ) (result : Result ListId DiskFault) (fault : DiskFault) → HasCause tells old new result → result ≡ Err fault
    → (fault ≡ NoMemory → ⊥) → (IsTrue tells → result ≡ Err Absent → IsNoDirectory old path) → (result ≡ Err Taken → ⊥) → (IsTrue tells → IsSome (directory_of old.tree path))
    → HasRisen old.faults new.faults
refused_risen tells old new path result Taken cause is memory absent taken there = absurd (taken is)
refused_risen tells old new path result Failed cause is memory absent taken there = cause.failed is
refused_risen tells old new path result NoMemory cause is memory absent taken there = absurd (memory refl)
refused_risen tells old new path result Absent cause is memory absent taken there = by (cases_Bool tells)
  where
    by : (tells ≡ true) ⊎ (tells ≡ false) → HasRisen old.faults new.faults
    by (inl told) = let e = sym (there told) ∙ ap is_some (absent told is) in absurd (cc e)
    by (inr untold) = inl (cause.absent untold is)
