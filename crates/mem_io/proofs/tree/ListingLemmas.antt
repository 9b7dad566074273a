-- A folder's listing: sorted by the inode numbers, and with each of its names once.
use Rattle.std.proofs.Common.{◌≡◌, ◌≢◌, ◌<◌, ◌≤◌, ℕ, suc, List, [], ◌∷◌, ◌++◌, refl, sym, ◌∙◌, ap, ⊎_elim, Bool, true, false, cond, arith}
use Rattle.std.specs.Prelude.{Option, Some, None, is_some, not, ◌&&◌, ◌||◌, nat_le, map, ⊤, option_map}
use Rattle.std.specs.declared.cmp.Ordering.{Ordering}
use Rattle.std.specs.declared.cmp.Ordering.TheVariants.{Less, Equal, Greater}
use Rattle.std.specs.Ordering.{is_lt, is_eq, nat_cmp, eq_by_cmp, ordering_then}
use Rattle.std.specs.List.{filter, cons_option, list_any, AllByRecursion, IsDistinct}
use Rattle.std.specs.List.Sorted.{ties, IsStableBy, IsNonDecreasingBy, IsPermutation, IsStrictlySortedBy}
use Rattle.std.specs.Option.{option_map_or}
use Rattle.std.specs.Str.{bytes_eq}
use Rattle.std.specs.Map.{keys_of}
use Rattle.std.specs.FinMap.{find}
use Rattle.std.specs.Cmp.Lexicographic.{texts_ties}
use Rattle.std.proofs.lemmas.Bool.{cases_order, leb-true, leb-false, or_parts}
use Rattle.std.proofs.lemmas.Bool.Decides.{nat_tests}
use Rattle.std.proofs.lemmas.Cmp.{eq_by_cmp_equiv, nat_list_cmp_total, nat_list_eq_equiv}
use Rattle.std.proofs.lemmas.List.Elements.{recursion_from_All}
use Rattle.std.proofs.lemmas.List.Sorted.{IsPermutation-refl, IsPermutation-cons, IsPermutation-trans, IsPermutation-middle, IsPermutation-map, list_any-IsPermutation}
use Rattle.std.proofs.lemmas.Map.Views.{tells_apart}
use Rattle.std.proofs.lemmas.Map.Keys.{IsDistinct-IsPermutation, sorted_head, sorted_tail}
use Rattle.sd_io.specs.declared.meta.RawEntry.{RawEntry}
use Rattle.sd_io.specs.Tree.{Name, NameList, Node, name_cmp, name_list_cmp, node_at}
use Rattle.mem_io.specs.MemTree.{entries_below, insert_by_number, by_number, listing, tree_of}
use Rattle.sd_io.specs.Lists.{name_below, raw_entry}
use Rattle.mem_io.proofs.tree.EntryLemmas.{name_list_exact, find-lookup, node_at_below}
use Rattle.mem_io.proofs.tree.TreeLemmas.{below_top}

-- ---- a stable sort by numbers is the only one

-- two entries have one number
abbrev same_number : RawEntry → RawEntry → Bool
same_number = ties (λ x y. is_lt (nat_cmp x.ino y.ino))

-- equal numbers tie
tie_yes : (a b : ℕ) → a ≡ b → (not (is_lt (nat_cmp a b)) && not (is_lt (nat_cmp b a))) ≡ true
tie_yes a b e = grind (arith, nat_tests)

-- others don't
tie_no : (a b : ℕ) → a ≢ b → (not (is_lt (nat_cmp a b)) && not (is_lt (nat_cmp b a))) ≡ false
tie_no a b ne = grind (arith, nat_tests)

-- only equal numbers tie
tie_same : (a b : ℕ) → (not (is_lt (nat_cmp a b)) && not (is_lt (nat_cmp b a))) ≡ true → a ≡ b
tie_same a b e = grind (arith, nat_tests)

-- no number is below one before it
abbrev IsRising : List RawEntry → Type 0
IsRising [] = ⊤
IsRising (x ∷ xs) = AllByRecursion (λ y. x.ino ≤ y.ino) xs × IsRising xs

-- an entry has its own number
head_passes : (x : RawEntry) (xs : List RawEntry) → filter (same_number x) (x ∷ xs) ≡ x ∷ filter (same_number x) xs
head_passes x xs = ap (λ b. cond b (x ∷ filter (same_number x) xs) (filter (same_number x) xs)) (tie_yes x.ino x.ino refl)

-- none has the number of an entry that is below all
none_passes : (x y : RawEntry) (ys : List RawEntry) → x.ino < y.ino → AllByRecursion (λ z. y.ino ≤ z.ino) ys → filter (same_number x) ys ≡ []
none_passes x y [] lt all = refl
none_passes x y (z ∷ zs) lt all =
    let differ : x.ino ≢ z.ino = λ e. omega (arith, all.0) in
    ap (λ b. cond b (z ∷ filter (same_number x) zs) (filter (same_number x) zs)) (tie_no x.ino z.ino differ) ∙ none_passes x y zs lt all.1

-- two lists don't begin with different numbers where they have the same entries of each
lower_head : (x y : RawEntry) (xs ys : List RawEntry) → x.ino < y.ino → AllByRecursion (λ z. y.ino ≤ z.ino) ys → filter (same_number x) (x ∷ xs) ≡ filter (same_number x) (y ∷ ys) → ⊥
lower_head x y xs ys lt all same =
    let self : y.ino ≤ y.ino = omega arith in
    let none : filter (same_number x) (y ∷ ys) ≡ [] = none_passes x y (y ∷ ys) lt (self, all) in
    cc (sym (head_passes x xs) ∙ same ∙ none)

-- two lists with one head or none
tails : (b : Bool) (x y : RawEntry) (us vs : List RawEntry) → cond b (x ∷ us) us ≡ cond b (y ∷ vs) vs → us ≡ vs
tails true x y us vs e = cc
tails false x y us vs e = e

-- rising lists with the same entries of each number are one
same_order : (xs ys : List RawEntry) → IsRising xs → IsRising ys → ((z : RawEntry) → filter (same_number z) xs ≡ filter (same_number z) ys) → xs ≡ ys
same_order [] [] g h same = refl
same_order [] (y ∷ ys) g h same = cc (same y ∙ head_passes y ys)
same_order (x ∷ xs) [] g h same = cc (sym (head_passes x xs) ∙ same x)
same_order (x ∷ xs) (y ∷ ys) g h same = ⊎_elim
    (λ e.
    let heads : x ∷ filter (same_number x) xs ≡ y ∷ filter (same_number x) ys
    = sym (head_passes x xs) ∙ same x ∙ ap (λ b. cond b (y ∷ filter (same_number x) ys) (filter (same_number x) ys)) (tie_yes x.ino y.ino e) in
    let head : x ≡ y = cc in
    let rest : xs ≡ ys = same_order xs ys g.1 h.1 (λ z. tails (same_number z y) x y (filter (same_number z) xs) (filter (same_number z) ys)
    (ap (λ w. cond (same_number z w) (x ∷ filter (same_number z) xs) (filter (same_number z) xs)) (sym head) ∙ same z)) in
    cc)
    (λ apart. absurd (⊎_elim (λ lt. lower_head x y xs ys lt h.0 (same x)) (λ gt. lower_head y x ys xs gt g.0 (sym (same y))) apart))
    (cases_order x.ino y.ino)

-- ---- the listing is a stable sort

-- an entry is put in among numbers from k on
insert_all : (k : ℕ) (e : RawEntry) (fs : List RawEntry) → k ≤ e.ino → AllByRecursion (λ y. k ≤ y.ino) fs → AllByRecursion (λ y. k ≤ y.ino) (insert_by_number e fs)
insert_all k e [] le all = (le, tt)
insert_all k e (f ∷ fs) le all = elim (nat_le e.ino f.ino) as (λ b. AllByRecursion (λ y. k ≤ y.ino) (cond b (e ∷ f ∷ fs) (f ∷ insert_by_number e fs))) [
  | true ↦ (le, all)
  | false ↦ (all.0, insert_all k e fs le all.1)
]

-- a lower bound holds too
all_above : (k l : ℕ) (fs : List RawEntry) → k ≤ l → AllByRecursion (λ y. l ≤ y.ino) fs → AllByRecursion (λ y. k ≤ y.ino) fs
all_above k l [] le all = tt
all_above k l (f ∷ fs) le all = (omega (arith, all.0), all_above k l fs le all.1)

-- an entry put in at its number keeps the order
insert_rising : (e : RawEntry) (fs : List RawEntry) → IsRising fs → IsRising (insert_by_number e fs)
insert_rising e [] h = (tt, tt)
insert_rising e (f ∷ fs) h = by (nat_le e.ino f.ino) refl (insert_rising e fs h.1)
  where
    by : (b : Bool) → nat_le e.ino f.ino ≡ b → IsRising (insert_by_number e fs) → IsRising (cond b (e ∷ f ∷ fs) (f ∷ insert_by_number e fs))
    by true t rest = let le = leb-true e.ino f.ino t in ((le, all_above e.ino f.ino fs le h.0), h)
    by false t rest = let lt = leb-false e.ino f.ino t in (insert_all f.ino e fs (omega arith) h.0, rest)

-- the listing rises
rising_by_number : (es : List RawEntry) → IsRising (by_number es)
rising_by_number [] = tt
rising_by_number (e ∷ es) = insert_rising e (by_number es) (rising_by_number es)

-- an entry goes past those with lower numbers alone
insert_stable : (x e : RawEntry) (fs : List RawEntry) → filter (same_number x) (insert_by_number e fs) ≡ filter (same_number x) (e ∷ fs)
insert_stable x e [] = refl
insert_stable x e (f ∷ fs) = by (nat_le e.ino f.ino) refl (insert_stable x e fs)
  where
    swap : (s t : Bool) (us : List RawEntry) → (s ≡ true → t ≡ true → ⊥) → cond t (f ∷ cond s (e ∷ us) us) (cond s (e ∷ us) us) ≡ cond s (e ∷ cond t (f ∷ us) us) (cond t (f ∷ us) us)
    swap true true us apart = absurd (apart refl refl)
    swap true false us apart = refl
    swap false t us apart = refl

    by : (b : Bool) → nat_le e.ino f.ino ≡ b → filter (same_number x) (insert_by_number e fs) ≡ filter (same_number x) (e ∷ fs)
        → filter (same_number x) (cond b (e ∷ f ∷ fs) (f ∷ insert_by_number e fs)) ≡ filter (same_number x) (e ∷ f ∷ fs)
    by true t rest = refl
    by false t rest =
        let lt = leb-false e.ino f.ino t in
        let apart : same_number x e ≡ true → same_number x f ≡ true → ⊥ = λ g h. omega (arith, tie_same x.ino e.ino g, tie_same x.ino f.ino h, lt) in
        ap (λ us. cond (same_number x f) (f ∷ us) us) rest ∙ swap (same_number x e) (same_number x f) (filter (same_number x) fs) apart

-- the listing keeps the order of entries with one number
stable_by_number : (x : RawEntry) (es : List RawEntry) → filter (same_number x) (by_number es) ≡ filter (same_number x) es
stable_by_number x [] = refl
stable_by_number x (e ∷ es) = insert_stable x e (by_number es) ∙ ap (λ us. cond (same_number x e) (e ∷ us) us) (stable_by_number x es)

-- what a sort ensures, one entry at a time
rising_from_sort : (xs : List RawEntry) → IsNonDecreasingBy (λ (e : RawEntry). e.ino) xs → IsRising xs
rising_from_sort [] h = tt
rising_from_sort (x ∷ xs) h = (recursion_from_All _ xs (λ k d lt. h 0 (suc k) d (omega arith) (omega arith)), rising_from_sort xs (λ i j d le lt. h (suc i) (suc j) d (omega arith) (omega arith)))

-- a stable sort of a folder's entries is its listing
pub sorted_listing : (folder : NameList) (nodes : List (NameList × Node)) (xs ys : List RawEntry) → xs ≡ entries_below folder nodes → IsNonDecreasingBy (λ (e : RawEntry). e.ino) ys
    → IsStableBy (λ (x y : RawEntry). is_lt (nat_cmp x.ino y.ino)) xs ys → ys ≡ listing folder nodes
unfolding listing
sorted_listing folder nodes xs ys is rises stable = same_order ys (by_number (entries_below folder nodes)) (rising_from_sort ys rises) (rising_by_number (entries_below folder nodes))
    (λ z. stable z ∙ ap (filter (same_number z)) is ∙ sym (stable_by_number z (entries_below folder nodes)))

-- ---- the listing has the same names

-- an entry put in is only moved
insert_moves : (e : RawEntry) (fs : List RawEntry) → IsPermutation (e ∷ fs) (insert_by_number e fs)
insert_moves e [] = IsPermutation-refl (e ∷ [])
insert_moves e (f ∷ fs) = elim (nat_le e.ino f.ino) as (λ b. IsPermutation (e ∷ f ∷ fs) (cond b (e ∷ f ∷ fs) (f ∷ insert_by_number e fs))) [
  | true ↦ IsPermutation-refl (e ∷ f ∷ fs)
  | false ↦ IsPermutation-trans _ _ _ (IsPermutation-middle (e ∷ []) f fs) (IsPermutation-cons f (e ∷ fs) (insert_by_number e fs) (insert_moves e fs))
]

-- the listing only moves entries
by_number_moves : (es : List RawEntry) → IsPermutation es (by_number es)
by_number_moves [] = IsPermutation-refl []
by_number_moves (e ∷ es) = IsPermutation-trans _ _ _ (IsPermutation-cons e es (by_number es) (by_number_moves es)) (insert_moves e (by_number es))

abbrev pub name_of : RawEntry → Name
name_of e = e.name

abbrev names_below : NameList → List (NameList × Node) → List Name
names_below folder nodes = map name_of (entries_below folder nodes)

-- a place is a name in a folder just where that is its name below the folder
tie_below : (folder place : NameList) (name : Name) → eq_by_cmp name_list_cmp (folder ++ name ∷ []) place ≡ option_map_or (bytes_eq name) (name_below folder place) false
tie_below [] [] name = refl
tie_below [] (n ∷ []) name = by (name_cmp name n) ∙ sym (texts_ties name n)
  where
    by : (r : Ordering) → is_eq (ordering_then r Equal) ≡ is_eq r
    by Less = refl
    by Equal = refl
    by Greater = refl
tie_below [] (n ∷ m ∷ more) name = by (name_cmp name n)
  where
    by : (r : Ordering) → is_eq (ordering_then r Less) ≡ false
    by Less = refl
    by Equal = refl
    by Greater = refl
tie_below (m ∷ folder) [] name = refl
tie_below (m ∷ folder) (n ∷ place) name = by (name_cmp m n) (texts_ties m n) (tie_below folder place name)
  where
    by : (r : Ordering) → bytes_eq m n ≡ is_eq r → is_eq (name_list_cmp (folder ++ name ∷ []) place) ≡ option_map_or (bytes_eq name) (name_below folder place) false
        → is_eq (ordering_then r (name_list_cmp (folder ++ name ∷ []) place)) ≡ option_map_or (bytes_eq name) (cond (bytes_eq m n) (name_below folder place) None) false
    by Less e h = rw e refl
    by Equal e h = rw e h
    by Greater e h = rw e refl

-- a name stands below a folder just where something is found there
any_below : (folder : NameList) (name : Name) (nodes : List (NameList × Node)) → list_any (bytes_eq name) (names_below folder nodes) ≡ is_some (find name_list_cmp (folder ++ name ∷ []) nodes)
any_below folder name [] = refl
any_below folder name (e ∷ es) = by (name_below folder e.0) (eq_by_cmp name_list_cmp (folder ++ name ∷ []) e.0) (tie_below folder e.0 name) (any_below folder name es)
  where
    by : (o : Option Name) (b : Bool) → b ≡ option_map_or (bytes_eq name) o false → list_any (bytes_eq name) (names_below folder es) ≡ is_some (find name_list_cmp (folder ++ name ∷ []) es)
        → list_any (bytes_eq name) (map name_of (cons_option (option_map (raw_entry e.1) o) (entries_below folder es))) ≡ is_some (cond b (Some e.1) (find name_list_cmp (folder ++ name ∷ []) es))
    by None b is h = h ∙ ap (λ t. is_some (cond t (Some e.1) (find name_list_cmp (folder ++ name ∷ []) es))) (sym is)
    by (Some n) b is h = either (bytes_eq name n) ∙ ap (λ t. is_some (cond t (Some e.1) (find name_list_cmp (folder ++ name ∷ []) es))) (sym is)
      where
        either : (t : Bool) → (t || list_any (bytes_eq name) (names_below folder es)) ≡ is_some (cond t (Some e.1) (find name_list_cmp (folder ++ name ∷ []) es))
        either true = refl
        either false = h

-- the listing has the names that stand below the folder
pub listing_all : (top : Node) (nodes : List (NameList × Node)) (folder : NameList) (name : Name) → list_any (bytes_eq name) (map name_of (listing folder nodes)) ≡ is_some (node_at (tree_of top nodes) (folder ++ name ∷ []))
unfolding listing
listing_all top nodes folder name =
    let place = folder ++ name ∷ [] in
    sym (list_any-IsPermutation (bytes_eq name) _ _ (IsPermutation-map name_of _ _ (by_number_moves (entries_below folder nodes)))) ∙ any_below folder name nodes
    ∙ ap is_some (find-lookup place nodes ∙ sym (node_at_below top nodes place (below_top folder name)))

-- ---- each name once

-- a place below all is not found
pub not_found : (place : NameList) (nodes : List (NameList × Node)) → AllByRecursion (λ q. name_list_cmp place q ≡ Less) (keys_of nodes) → is_some (find name_list_cmp place nodes) ≡ false
not_found place [] all = refl
not_found place (e ∷ es) all = ap (λ r. is_some (cond (is_eq r) (Some e.1) (find name_list_cmp place es))) all.0 ∙ not_found place es all.1

-- a name that a list hasn't got differs from each of its names
all_apart : (name : Name) (names : List Name) → list_any (bytes_eq name) names ≡ false → AllByRecursion (λ other. eq_by_cmp name_cmp name other ≡ false) names
all_apart name [] none = tt
all_apart name (other ∷ names) none = let h = or_parts (bytes_eq name other) (list_any (bytes_eq name) names) none in (sym (texts_ties name other) ∙ h.0, all_apart name names h.1)

-- the place of a name below a folder
pub place_below : (folder place : NameList) (name : Name) → name_below folder place ≡ Some name → folder ++ name ∷ [] ≡ place
place_below folder place name e =
    let tied : eq_by_cmp name_list_cmp (folder ++ name ∷ []) place ≡ true = tie_below folder place name ∙ ap (λ o. option_map_or (bytes_eq name) o false) e ∙ nat_list_eq_equiv.refl name in
    tells_apart name_list_exact _ _ tied

-- the names below a folder differ
distinct_below : (folder : NameList) (nodes : List (NameList × Node)) → IsStrictlySortedBy name_list_cmp (keys_of nodes) → IsDistinct (eq_by_cmp name_cmp) (names_below folder nodes)
unfolding IsDistinct
distinct_below folder [] sorted = tt
distinct_below folder (e ∷ es) sorted = by (name_below folder e.0) refl (distinct_below folder es (sorted_tail name_list_cmp e.0 (keys_of es) sorted))
  where
    by : (o : Option Name) → name_below folder e.0 ≡ o → IsDistinct (eq_by_cmp name_cmp) (names_below folder es) → IsDistinct (eq_by_cmp name_cmp) (map name_of (cons_option (option_map (raw_entry e.1) o) (entries_below folder es)))
    by None is rest = rest
    by (Some name) is rest =
        let later = sorted_head name_list_cmp e.0 (keys_of es) sorted in
        let none : is_some (find name_list_cmp (folder ++ name ∷ []) es) ≡ false = rw (place_below folder e.0 name is) (not_found e.0 es later) in
        (all_apart name (names_below folder es) (any_below folder name es ∙ none), rest)

-- the listing has each name once
pub listing_once : (nodes : List (NameList × Node)) (folder : NameList) → IsStrictlySortedBy name_list_cmp (keys_of nodes) → IsDistinct (eq_by_cmp name_cmp) (map name_of (listing folder nodes))
unfolding listing
listing_once nodes folder sorted =
    IsDistinct-IsPermutation (eq_by_cmp name_cmp) (eq_by_cmp_equiv nat_list_cmp_total).symm _ _ (IsPermutation-map name_of _ _ (by_number_moves (entries_below folder nodes))) (distinct_below folder nodes sorted)
