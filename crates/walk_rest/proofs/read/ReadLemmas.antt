-- A list that is read to its end.
use Rattle.std.proofs.Common.{◌≡◌, ◌+◌, ◌^◌, ◌<◌, ◌≤◌, ◌⊎◌, ℕ, zero, suc, Bool, true, false, cond, List, [], ◌∷◌, ◌++◌, length, map, Option, Some, None, refl, sym, ◌∙◌, ap, subst, inl, inr, arith, append_assoc, append-nil}
use Rattle.std.proofs.lemmas.List.{map-append}
use Rattle.std.proofs.lemmas.Bool.{cases_order}
use Rattle.std.specs.Prelude.{Ok, Err, ◌≢◌, IsErrOf, Result}
use Rattle.sd_io.specs.declared.fault.DiskFault.{DiskFault}
use Rattle.sd_io.specs.Count.{HasRisen, IsAtLast}
use Rattle.sd_io.specs.declared.fault.DiskFault.TheVariants.{Absent, Taken, Failed, NoMemory}
use Rattle.sd_io.specs.Disk.{DiskState, OpenList, SameLists}
use Rattle.sd_io.specs.Lists.{Passes, Ends, Gives, PassesOver, PassesOverNext, GivesNext, HasNoneLeft, IsFull}
use Rattle.sd_io.specs.declared.meta.RawEntry.{RawEntry}
use Rattle.walk_rest.specs.declared.entry.DirEntry.{DirEntry}
use Rattle.walk_rest.specs.declared.level.Folder.{Folder}
use Rattle.walk_rest.specs.declared.level.Due.{Due}
use Rattle.walk_rest.specs.Plan.{entry_below}
use Rattle.walk_rest.specs.Level.{IsAllowed, AddsFaults, TakesEntries, TakesWithFaults, Loses, fault_of, left_in, listing_faults, unended}
use Rattle.walk_rest.specs.Read.{ReadsList}
use Rattle.walk_rest.specs.Sorting.{IsSublist, nothing, skipped, taken}

abbrev pub weight_open : Option OpenList → ℕ
weight_open None = 0
weight_open (Some list) = cond list.is_at_end 0 1

-- ---- sublists

pub sublist_same : {X : Type 0} (xs : List X) → IsSublist xs xs
sublist_same [] = nothing
sublist_same (x ∷ xs) = taken (sublist_same xs)

pub sublist_on : {X : Type 0} (xs ys zs : List X) → IsSublist xs ys → IsSublist ys zs → IsSublist xs zs
sublist_on xs ys zs h nothing = h
sublist_on xs ys zs h (skipped {xs = vs} {ys = ws} s) = skipped (sublist_on xs vs ws h s)
sublist_on {X} xs ys zs h (taken {y = y} {xs = vs} {ys = ws} s) = by xs (y ∷ vs) h refl (λ us k. sublist_on us vs ws k s)
  where
    by : (us ts : List X) → IsSublist us ts → ts ≡ y ∷ vs → ((ps : List X) → IsSublist ps vs → IsSublist ps ws) → IsSublist us (y ∷ ws)
    by us ts nothing e r = absurd (cc e)
    by us ts (skipped {y = z} {xs = ps} {ys = bs} k) e r = let same : bs ≡ vs = cc in skipped (r ps (subst (IsSublist ps) same k))
    by us ts (taken {y = z} {xs = ps} {ys = bs} k) e r =
        let same : bs ≡ vs = cc in
        let head : z ≡ y = cc in
        subst (λ (w : X). IsSublist (w ∷ ps) (y ∷ ws)) (sym head) (taken (r ps (subst (IsSublist ps) same k)))

pub sublist_none : {X : Type 0} (xs : List X) → IsSublist [] xs
sublist_none [] = nothing
sublist_none (x ∷ xs) = skipped (sublist_none xs)

pub sublist_behind : {X : Type 0} (front us xs : List X) → IsSublist us xs → IsSublist (front ++ us) (front ++ xs)
sublist_behind [] us xs h = h
sublist_behind (x ∷ front) us xs h = taken (sublist_behind front us xs h)

-- ---- entries that were taken

-- a call that failed takes none
pub taken_over : (old now new : DiskState) (number n : ℕ) → TakesEntries n old now → PassesOver now number new → TakesEntries n old new
taken_over old now new number n h over = by over.outcome
  where
    by : ((rest : List RawEntry) × Passes now number rest new) ⊎ Ends now number new → TakesEntries n old new
    by (inl p) = let e = p.1.listed in omega (arith, e, h)
    by (inr e) = let same = e.listed in omega (arith, same, h)

-- ---- what it used up

length_one : {X : Type 0} (xs : List X) (x : X) → length (xs ++ x ∷ []) ≡ length xs + 1
length_one [] x = refl
length_one (y ∷ xs) x = let e = length_one xs x in omega (arith, e)

-- a count of 64 bits stands at its last value, or can rise
rises : (count : ℕ) → IsAtLast count ⊎ (count + 1 < 2 ^ 64)
rises count = by (cases_order (2 ^ 64) (count + 1))
  where
    by : (2 ^ 64 ≡ count + 1) ⊎ ((2 ^ 64 < count + 1) ⊎ (count + 1 < 2 ^ 64)) → IsAtLast count ⊎ (count + 1 < 2 ^ 64)
    by (inl e) = inl (omega arith)
    by (inr (inl l)) = inl (omega arith)
    by (inr (inr l)) = inr l

-- a call that gave an entry didn't fail
pub given_in_time : {T : Type 0} {given : T} → IsErrOf {T = T} (Ok given) Failed ⊎ IsErrOf {T = T} (Ok given) NoMemory → ⊥
given_in_time (inl e) = absurd (cc e)
given_in_time (inr e) = absurd (cc e)

-- an entry was given
pub passed_given : (ending : ℕ) (old now new : DiskState) (number n m : ℕ) (due now_due : List Due) → TakesWithFaults (n + unended (now.open_list number)) ending old due now now_due → Gives now number new
    → (IsFull now → ⊥) → m ≡ n + 1 → TakesWithFaults (m + unended (new.open_list number)) ending old due new now_due
passed_given ending old now new number n m due now_due h gives room more =
    let was : unended (now.open_list number) ≡ 1 = ap unended gives.was in
    let is : unended (new.open_list number) ≡ 1 = ap unended gives.passes.now in
    let one = gives.passes.listed in
    elim (rises now.listed) [ inl last ↦ absurd (room last) | inr fits ↦ omega (arith, was, is, one, fits, h, more) ]

-- a failure passed over one, or ended the list
pub passed_over : (ending : ℕ) (old now new : DiskState) (number n : ℕ) (due now_due then_due : List Due) (fault : Due) → TakesWithFaults (n + unended (now.open_list number)) ending old due now now_due
    → PassesOver now number new → (IsFull now → Ends now number new) → then_due ≡ now_due ++ fault ∷ [] → TakesWithFaults (n + unended (new.open_list number)) ending old due new then_due
passed_over ending old now new number n due now_due then_due fault h over full snoc = by over.outcome
  where
    was : unended (now.open_list number) ≡ 1
    was = ap unended over.was

    longer : length then_due ≡ length now_due + 1
    longer = ap length snoc ∙ length_one now_due fault

    ended : Ends now number new → TakesWithFaults (n + unended (new.open_list number)) ending old due new then_due
    ended e = let is : unended (new.open_list number) ≡ 0 = ap unended e.now in let same = e.listed in omega (arith, was, longer, is, same, h)

    by : ((rest : List RawEntry) × Passes now number rest new) ⊎ Ends now number new → TakesWithFaults (n + unended (new.open_list number)) ending old due new then_due
    by (inl p) = elim (rises now.listed) [
      | inl last ↦ ended (full last)
      | inr fits ↦ (let is : unended (new.open_list number) ≡ 1 = ap unended p.1.now in let one = p.1.listed in omega (arith, was, longer, is, one, fits, h))
    ]
    by (inr e) = ended e

pub later_over : (now new : DiskState) (number : ℕ) → PassesOver now number new → now.listed ≤ new.listed
later_over now new number over = by over.outcome
  where
    by : ((rest : List RawEntry) × Passes now number rest new) ⊎ Ends now number new → now.listed ≤ new.listed
    by (inl p) = let e = p.1.listed in omega (arith, e)
    by (inr e) = let same = e.listed in omega (arith, same)

pub later_refused : {T : Type 0} (now new : DiskState) (number : ℕ) (result : Result T DiskFault) (fault : DiskFault) → result ≡ Err fault → (result ≢ Err Absent) → (result ≢ Err Taken)
    → (IsErrOf result Failed → PassesOver now number new) → (IsErrOf result NoMemory → SameLists now new) → now.listed ≤ new.listed
later_refused now new number result Absent is absent present failed memory = absurd (absent is)
later_refused now new number result Taken is absent present failed memory = absurd (present is)
later_refused now new number result Failed is absent present failed memory = later_over now new number (failed is)
later_refused now new number result NoMemory is absent present failed memory = let same = (memory is).listed in omega (arith, same)

-- ---- reading on

-- what was read, before what is left, is what was left but for what was lost
pub record entries_left (old : DiskState) (number : ℕ) (folder : Folder) (due : List Due) (new : DiskState) (now_due : List Due) (entries : List DirEntry) : Type 0 where
  pub cuts : ℕ
  pub loses : Loses cuts (map (entry_below folder) (left_in (old.open_list number))) (entries ++ map (entry_below folder) (left_in (new.open_list number)))
  pub now_are : map fault_of now_due ≡ map fault_of due ++ listing_faults (folder.depth + 1) cuts
  pub allowed : IsAllowed cuts old.faults new.faults
  pub listed : cuts ≡ 0 → new.listed ≡ old.listed + length entries

pub left_nothing : (folder : Folder) (old : DiskState) (number : ℕ) (due : List Due) (entries : List DirEntry) → entries ≡ [] → entries_left old number folder due old due entries
left_nothing folder old number due entries e = rw e (record {
  cuts = 0;
  loses = record { left = sublist_same _; whole = λ _. refl };
  now_are = sym (append-nil _);
  allowed = inl (omega arith);
  listed = λ _. omega arith;
})

still_allowed : (n a b c : ℕ) → b ≤ c → IsAllowed n a b → IsAllowed n a c
still_allowed n a b c le (inl h) = inl (omega arith)
still_allowed n a b c le (inr h) = inr (omega arith)

one_more : (n a b c : ℕ) → b ≤ c → HasRisen b c → IsAllowed n a b → IsAllowed (suc n) a c
one_more n a b c le (inl r) (inl h) = inl (omega arith)
one_more n a b c le (inl r) (inr h) = inr (omega arith)
one_more n a b c le (inr r) h = inr r

-- ---- failures that came to be due

pub added_none : (state : DiskState) (due now_due : List Due) → now_due ≡ due → AddsFaults state due state now_due
added_none state due now_due same = record { more = []; now_are = same ∙ sym (append-nil due); allowed = inl (omega arith) }

pub added_on : (old now new : DiskState) (due now_due : List Due) → now.faults ≤ new.faults → AddsFaults old due now now_due → AddsFaults old due new now_due
added_on old now new due now_due le h = record { more = h.more; now_are = h.now_are; allowed = still_allowed (length h.more) old.faults now.faults new.faults le h.allowed }

pub added_one : (old now new : DiskState) (due now_due then_due : List Due) (fault : Due) → now.faults ≤ new.faults → HasRisen now.faults new.faults → then_due ≡ now_due ++ fault ∷ []
    → AddsFaults old due now now_due → AddsFaults old due new then_due
added_one old now new due now_due then_due fault le risen snoc h = record {
  more = h.more ++ fault ∷ [];
  now_are = snoc ∙ (ap (λ xs. xs ++ fault ∷ []) h.now_are ∙ append_assoc due h.more (fault ∷ []));
  allowed = (let longer = length_one h.more fault in let same : length (h.more ++ fault ∷ []) ≡ suc (length h.more) = omega (arith, longer) in
      rw same (one_more (length h.more) old.faults now.faults new.faults le risen h.allowed));
}

faults_snoc : (depth n : ℕ) → listing_faults depth n ++ record { path = None; depth = depth } ∷ [] ≡ listing_faults depth (suc n)
faults_snoc depth zero = refl
faults_snoc depth (suc n) = ap (λ z. record { path = None; depth = depth } ∷ z) (faults_snoc depth n)

-- one more fault is due
one_due : (start old new : List Due) (depth n : ℕ) (due : Due) → map fault_of old ≡ map fault_of start ++ listing_faults depth n → new ≡ old ++ due ∷ []
    → fault_of due ≡ record { path = None; depth = depth } → map fault_of new ≡ map fault_of start ++ listing_faults depth (suc n)
one_due start old new depth n due h e f =
    rw (e, map-append fault_of old (due ∷ []), h, f)
    (append_assoc (map fault_of start) (listing_faults depth n) (record { path = None; depth = depth } ∷ []) ∙ ap (λ z. map fault_of start ++ z) (faults_snoc depth n))

-- the next entry was read
pub read_one : (folder : Folder) (old now new : DiskState) (number : ℕ) (due now_due : List Due) (entries more : List DirEntry) (raw : RawEntry) (entry : DirEntry)
    → entries_left old number folder due now now_due entries → GivesNext now number raw new → new.listed ≡ now.listed + 1 → now.faults ≤ new.faults
    → entry ≡ entry_below folder raw → more ≡ entries ++ entry ∷ [] → entries_left old number folder due new now_due more
read_one folder old now new number due now_due entries more raw entry h gives count faults is snoc =
    let f = entry_below folder in
    let same : more ++ map f (left_in (new.open_list number)) ≡ entries ++ map f (left_in (now.open_list number)) =
    rw (snoc, is, gives.was, gives.now) (append_assoc entries (f raw ∷ []) (map f gives.rest)) in
    let longer : length more ≡ length entries + 1 = ap length snoc ∙ length_one entries entry in
    record {
      cuts = h.cuts;
      loses = rw same h.loses;
      now_are = h.now_are;
      allowed = still_allowed h.cuts old.faults now.faults new.faults faults h.allowed;
      listed = λ none. let e = h.listed none in omega (arith, e, longer, count);
    }

lost_one : (front back less all : List DirEntry) (n : ℕ) → Loses n all (front ++ back) → IsSublist less back → Loses (suc n) all (front ++ less)
lost_one front back less all n h s = record { left = sublist_on (front ++ less) (front ++ back) all (sublist_behind front less back s) h.left; whole = λ e. absurd (omega (arith, e)) }

-- reading failed once
pub read_failed : (folder : Folder) (old now new : DiskState) (number : ℕ) (due now_due then_due : List Due) (entries : List DirEntry) (fault : Due)
    → entries_left old number folder due now now_due entries → PassesOver now number new → PassesOverNext now number new → now.faults ≤ new.faults → HasRisen now.faults new.faults
    → then_due ≡ now_due ++ fault ∷ [] → fault_of fault ≡ record { path = None; depth = folder.depth + 1 } → entries_left old number folder due new then_due entries
read_failed folder old now new number due now_due then_due entries fault h over next faults risen snoc is = record {
  cuts = suc h.cuts;
  loses = lost_one entries _ _ _ h.cuts h.loses (less over.outcome);
  now_are = one_due due now_due then_due (folder.depth + 1) h.cuts fault h.now_are snoc is;
  allowed = one_more h.cuts old.faults now.faults new.faults faults risen h.allowed;
  listed = λ none. absurd (omega (arith, none));
}
  where
    less : ((rest : List RawEntry) × Passes now number rest new) ⊎ Ends now number new → IsSublist (map (entry_below folder) (left_in (new.open_list number))) (map (entry_below folder) (left_in (now.open_list number)))
    less (inl p) =
        let one = next p.0 p.1 in
        rw (one.1, p.1.now) (skipped (sublist_same (map (entry_below folder) p.0)))
    less (inr e) = rw e.now (sublist_none _)

none_in : (list : Option OpenList) (ended : Bool) → list ≡ Some (record { is_at_end = ended; left = [] }) → left_in list ≡ []
none_in list true e = ap left_in e
none_in list false e = ap left_in e

-- the list has nothing left
pub read_all : (folder : Folder) (old now new : DiskState) (number : ℕ) (due now_due : List Due) (entries : List DirEntry)
    → entries_left old number folder due now now_due entries → HasNoneLeft now number → new.listed ≡ now.listed → now.faults ≤ new.faults → ReadsList old number folder due new now_due entries
read_all folder old now new number due now_due entries h none count faults =
    let empty : left_in (now.open_list number) ≡ [] = none_in (now.open_list number) none.0 none.1 in
    let same : entries ++ map (entry_below folder) (left_in (now.open_list number)) ≡ entries = ap (λ left. entries ++ map (entry_below folder) left) empty ∙ append-nil entries in
    record {
      cuts = h.cuts;
      loses = let L : List DirEntry → Type 0 = λ es. Loses h.cuts (map (entry_below folder) (left_in (old.open_list number))) es in subst L same h.loses;
      now_are = h.now_are;
      allowed = still_allowed h.cuts old.faults now.faults new.faults faults h.allowed;
      listed = λ z. count ∙ h.listed z;
    }

pub still_open : (now new : DiskState) (number : ℕ) → PassesOver now number new → (x : OpenList) × (new.open_list number ≡ Some x)
still_open now new number over = by over.outcome
  where
    by : ((rest : List RawEntry) × Passes now number rest new) ⊎ Ends now number new → (x : OpenList) × (new.open_list number ≡ Some x)
    by (inl p) = (_, p.1.now)
    by (inr e) = (_, e.now)
