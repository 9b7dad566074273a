-- The image of a choice grows place by place.
use Rattle.std.proofs.Common.{◌≡◌, ◌≢◌, ◌<◌, ◌≤◌, ◌+◌, ◌%◌, ◌⊎◌, ℕ, zero, suc, List, [], ◌∷◌, ◌++◌, length, get_or, refl, sym, ◌∙◌, ap, subst, inl, inr, Bool, true, false, cond, arith}
use Rattle.std.specs.Prelude.{Option, Some, None, option_map}
use Rattle.std.specs.declared.cmp.Ordering.TheVariants.{Less, Greater}
use Rattle.std.specs.Ordering.{ordering_then}
use Rattle.std.specs.Int.{w64, rotate_right}
use Rattle.std.specs.List.{list_all, slice_get}
use Rattle.std.specs.List.Sorted.{IsStrictlySortedBy}
use Rattle.std.specs.Map.{keys_of}
use Rattle.std.specs.Str.{bytes_eq}
use Rattle.std.specs.Cmp.Lexicographic.{bytes_decides}
use Rattle.std.proofs.Math.Nat.{mod-lt}
use Rattle.std.proofs.lemmas.Cmp.{tied_itself, nat_list_cmp_total}
use Rattle.std.proofs.lemmas.Map.Keys.{Less-from_sorted}
use Rattle.std.proofs.lemmas.Map.Entries.{length-keys_of}
use Rattle.std.proofs.lemmas.Option.{slice_get_within, get_or_from_slice_get, slice_get-map, slice_get-get_or, same_Some}
use Rattle.sd_io.specs.Tree.{Name, NameList, name_list_cmp, Content, directory, link, file, other, Node, Tree, node_at, is_directory_at, is_directory_node}
use Rattle.mem_io.specs.MemTree.{IsPlaceIn, dev_at}
use Rattle.mem_io.specs.MemTrail.{begins_with}
use Rattle.mem_io.specs.Images.{SameDevicesOutside}
use Rattle.sd_io.specs.Outcomes.{Left, gone, this, any_file, Outcome, older, Outcomes, content_of, content_at}
use Rattle.mem_io.specs.Log.{fits_test, is_own_of, is_left, is_tidy, has_other, crash_content, chosen, HasDeviceOf, IsKept, IsCrash}
use Rattle.mem_io.specs.LogHolds.{both, content_same}
use Rattle.mem_io.specs.OutcomeTable.{Counts}
use Rattle.mem_io.proofs.log.TestLemmas.{standing_other}
use Rattle.mem_io.proofs.tree.TreeLemmas.{same_or_other}
use Rattle.mem_io.proofs.tree.EntryLemmas.{name_list_total}

abbrev Lists : Type 0
Lists = List (NameList × List Outcome)

-- ---- a directory stays in each image

-- what stands in a folder is a directory
directory_there : (o : Option Node) → is_directory_node o ≡ true → content_of o ≡ Some directory
directory_there None e = cc
directory_there (Some node) e = by node.content e
  where
    by : (c : Content) → is_directory_node (Some (record { content = c; dev = node.dev; ino = node.ino })) ≡ true → Some c ≡ Some directory
    by directory e = refl
    by (link t) e = cc
    by (file b m) e = cc
    by other e = cc

there_directory : (o : Option Node) → content_of o ≡ Some directory → is_directory_node o ≡ true
there_directory None e = cc
there_directory (Some node) e = by node.content e
  where
    by : (c : Content) → Some c ≡ Some directory → is_directory_node (Some (record { content = c; dev = node.dev; ino = node.ino })) ≡ true
    by directory e = refl
    by (link t) e = cc
    by (file b m) e = cc
    by other e = cc

nothing_there : (o : Option Node) → content_of o ≡ None → o ≡ None
nothing_there None e = refl
nothing_there (Some node) e = cc

-- each own outcome of a directory leaves it
left_directory : (left : Left) → fits_test (Some directory) left ≡ true → crash_content left ≡ Some directory
left_directory gone e = cc
left_directory (this node) e = ap (λ (c : Content). Some c) (sym (content_same directory node.content e))
left_directory any_file e = cc

number_directory : (os : List Outcome) (k : ℕ) (d : Outcome) → list_all (is_own_of directory) os ≡ true → k < length os → crash_content (get_or os k d).left ≡ Some directory
number_directory [] k d all low = absurd (omega arith)
number_directory (o ∷ os) zero d all low = left_directory o.left (both o.is_own (fits_test (Some directory) o.left) (both (is_own_of directory o) (list_all (is_own_of directory) os) all).0).1
number_directory (o ∷ os) (suc k) d all low = number_directory os k d (both (is_own_of directory o) (list_all (is_own_of directory) os) all).1 (omega arith)

some_outcome : (os : List Outcome) → has_other os ≡ true → 0 < length os
some_outcome [] e = cc
some_outcome (o ∷ os) e = omega arith

module _ (old : Tree) (outcomes : Outcomes) (kept : IsKept old outcomes) where
  directory_other : (q : NameList) → is_directory_at old q ≡ true → has_other (outcomes q) ≡ true
  directory_other q is = standing_other directory (outcomes q) (ap (λ c. is_left c (outcomes q)) (sym (directory_there (node_at old q) is)) ∙ kept.present q)

  chosen_directory : (choice i : ℕ) (q : NameList) → is_directory_at old q ≡ true → crash_content (chosen choice i (outcomes q)) ≡ Some directory
  chosen_directory choice i q is =
      number_directory (outcomes q) (rotate_right w64 choice (i % 64) % length (outcomes q)) (older gone) (ap (λ c. is_tidy c (outcomes q)) (sym (directory_there (node_at old q) is)) ∙ kept.tidy q)
      (mod-lt (rotate_right w64 choice (i % 64)) (some_outcome (outcomes q) (directory_other q is)))

-- ---- the order of places

-- a folder comes before what lies in it
folder_first : (folder : NameList) (name : Name) → name_list_cmp (folder ++ name ∷ []) folder ≡ Greater
folder_first [] name = refl
folder_first (first ∷ folder) name = ap (λ r. ordering_then r (name_list_cmp (folder ++ name ∷ []) folder)) (tied_itself nat_list_cmp_total first) ∙ folder_first folder name

key_at : (lists : Lists) (k : ℕ) (q d : NameList) (list : List Outcome) → slice_get lists k ≡ Some (q, list) → get_or (keys_of lists) k d ≡ q
key_at lists k q d list is =
    get_or_from_slice_get (keys_of lists) k q d (slice_get-map (λ (e : NameList × List Outcome). e.0) lists k ∙ ap (option_map (λ (e : NameList × List Outcome). e.0)) is)

key_within : (lists : Lists) (k : ℕ) (q : NameList) (list : List Outcome) → slice_get lists k ≡ Some (q, list) → k < length (keys_of lists)
key_within lists k q list is = let low = slice_get_within lists k (q, list) is in omega (arith, low, length-keys_of lists)

ordered_at : (lists : Lists) (i k : ℕ) (p q : NameList) (a b : List Outcome) → IsStrictlySortedBy name_list_cmp (keys_of lists) → slice_get lists i ≡ Some (p, a) → slice_get lists k ≡ Some (q, b) → i < k → name_list_cmp p q ≡ Less
ordered_at lists i k p q a b sorted at_i at_k low =
    (λ j. name_list_cmp (sym (key_at lists i p [] a at_i) j) (sym (key_at lists k q [] b at_k) j)) ∙ Less-from_sorted name_list_cmp (keys_of lists) i k [] sorted low (key_within lists k q b at_k)

-- so an earlier place is another
apart_at : (lists : Lists) (i k : ℕ) (p q : NameList) (a b : List Outcome) → IsStrictlySortedBy name_list_cmp (keys_of lists) → slice_get lists i ≡ Some (p, a) → slice_get lists k ≡ Some (q, b) → i < k → p ≢ q
apart_at lists i k p q a b sorted at_i at_k low same = cc (sym (ordered_at lists i k p q a b sorted at_i at_k low) ∙ ap (λ r. name_list_cmp r q) same, tied_itself name_list_total q)

before_or_here : (k n : ℕ) → k < n + 1 → (k < n) ⊎ (k ≡ n)
before_or_here k n low = grind arith

apart_numbers : (k n : ℕ) → (k < n) ⊎ ((k ≡ n) ⊎ (n < k))
apart_numbers k n = grind arith

-- a place that begins with the names of another doesn't come before it
pub not_before : (place q : NameList) → name_list_cmp q place ≡ Less → begins_with place q ≡ false
not_before [] [] e = cc
not_before [] (next ∷ q) e = cc
not_before (name ∷ place) [] e = refl
not_before (name ∷ place) (next ∷ q) e = by (bytes_eq name next) (bytes_decides name next).0 (not_before place q)
  where
    by : (b : Bool) → (b ≡ true → name ≡ next) → (name_list_cmp q place ≡ Less → begins_with place q ≡ false) → cond b (begins_with place q) false ≡ false
    by false same rest = refl
    by true same rest =
        let tied : name_list_cmp (next ∷ q) (name ∷ place) ≡ name_list_cmp q place =
        ap (λ n. name_list_cmp (next ∷ q) (n ∷ place)) (same refl) ∙ ap (λ r. ordering_then r (name_list_cmp q place)) (tied_itself nat_list_cmp_total next) in
        rest (sym tied ∙ e)

-- ---- the image so far

-- the first n places that count have what they take, and nothing else stands but the top
pub record ImageSoFar (choice : ℕ) (lists : Lists) (n : ℕ) (tree : Tree) : Type 0 where
  pub top : content_at tree [] ≡ Some directory
  pub taken : (k : ℕ) (q : NameList) (list : List Outcome) → k < n → slice_get lists k ≡ Some (q, list) → q ≢ [] → content_at tree q ≡ crash_content (chosen choice k list)
  pub devices : (k : ℕ) (q : NameList) (list : List Outcome) → k < n → slice_get lists k ≡ Some (q, list) → HasDeviceOf (chosen choice k list) (dev_at tree q)
  pub free : (q : NameList) → q ≢ [] → ((k : ℕ) (list : List Outcome) → k < n → slice_get lists k ≡ Some (q, list) → ⊥) → content_at tree q ≡ None

pub image_first : (choice : ℕ) (lists : Lists) (tree : Tree) (top : Node) → node_at tree [] ≡ Some top → top.content ≡ directory → ((q : NameList) → q ≢ [] → node_at tree q ≡ None) → ImageSoFar choice lists 0 tree
image_first choice lists tree top stands is others = record {
  top = ap content_of stands ∙ ap (λ (c : Content). Some c) is;
  taken = λ k q list low _ _. absurd (omega arith);
  devices = λ k q list low _. absurd (omega arith);
  free = λ q below _. ap content_of (others q below);
}

module _ (choice : ℕ) (lists : Lists) (n : ℕ) (tree : Tree) (place : NameList) (list : List Outcome) (sorted : IsStrictlySortedBy name_list_cmp (keys_of lists)) (so_far : ImageSoFar choice lists n tree)
    (here : slice_get lists n ≡ Some (place, list)) where
  -- nothing stands yet at the next place
  pub next_free : place ≢ [] → node_at tree place ≡ None
  next_free below = nothing_there (node_at tree place) (so_far.free place below (λ k other low at. apart_at lists k n place place other list sorted at here low refl))

  -- one place more
  pub image_more : (new : Tree) → ((q : NameList) → q ≢ place → content_at new q ≡ content_at tree q) → content_at new [] ≡ Some directory → (place ≢ [] → content_at new place ≡ crash_content (chosen choice n list))
      → SameDevicesOutside place tree new → HasDeviceOf (chosen choice n list) (dev_at new place) → ImageSoFar choice lists (n + 1) new
  image_more new others top takes outside device = record {
    top = top;
    taken = λ k q l low at below. elim (before_or_here k n low) [
      | inl before ↦ others q (apart_at lists k n q place l list sorted at here before) ∙ so_far.taken k q l before at below
      | inr same ↦ now k q l same at below
    ];
    devices = λ k q l low at. elim (before_or_here k n low) [
      | inl before ↦ subst (HasDeviceOf (chosen choice k l)) (sym (outside q (not_before place q (ordered_at lists k n q place l list sorted at here before)))) (so_far.devices k q l before at)
      | inr same ↦ device_now k q l same at
    ];
    free = λ q below none.
        let apart : q ≢ place = λ e. none n list (omega arith) (here ∙ (λ i. Some (sym e i, list))) in
        others q apart ∙ so_far.free q below (λ k l low at. none k l (omega arith) at);
  }
    where
      now : (k : ℕ) (q : NameList) (l : List Outcome) → k ≡ n → slice_get lists k ≡ Some (q, l) → q ≢ [] → content_at new q ≡ crash_content (chosen choice k l)
      now k q l same at below =
          let both_are : Some (q, l) ≡ Some (place, list) = sym at ∙ ap (slice_get lists) same ∙ here in
          let entry_is = same_Some (q, l) (place, list) both_are in
          let place_is = ap (λ (e : NameList × List Outcome). e.0) entry_is in
          let list_is = ap (λ (e : NameList × List Outcome). e.1) entry_is in
          (λ i. content_at new (place_is i)) ∙ takes (λ e. below (place_is ∙ e)) ∙ (λ i. crash_content (chosen choice (sym same i) (sym list_is i)))

      device_now : (k : ℕ) (q : NameList) (l : List Outcome) → k ≡ n → slice_get lists k ≡ Some (q, l) → HasDeviceOf (chosen choice k l) (dev_at new q)
      device_now k q l same at =
          let both_are : Some (q, l) ≡ Some (place, list) = sym at ∙ ap (slice_get lists) same ∙ here in
          let entry_is = same_Some (q, l) (place, list) both_are in
          let there : HasDeviceOf (chosen choice n l) (dev_at new q) = subst (λ (e : NameList × List Outcome). HasDeviceOf (chosen choice n e.1) (dev_at new e.0)) (sym entry_is) device in
          subst (λ (m : ℕ). HasDeviceOf (chosen choice m l) (dev_at new q)) (sym same) there

-- ---- where a node can be built

last_name : (place : NameList) → place ≢ [] → (folder : NameList) × (name : Name) × (place ≡ folder ++ name ∷ [])
last_name [] below = absurd (below refl)
last_name (name ∷ []) below = ([], name, refl)
last_name (first ∷ next ∷ more) below = let rest = last_name (next ∷ more) (λ e. cc e) in (first ∷ rest.0, rest.1, ap (λ p. first ∷ p) rest.2)

module _ (old : Tree) (outcomes : Outcomes) (kept : IsKept old outcomes) (lists : Lists) (counts : Counts outcomes lists) (choice n : ℕ) (tree : Tree) (so_far : ImageSoFar choice lists n tree) where
  -- the next place lies in a directory of the image
  pub next_place : (place : NameList) (list : List Outcome) → slice_get lists n ≡ Some (place, list) → place ≢ [] → IsPlaceIn tree place
  next_place place list here below =
      let s = last_name place below in
      let told = counts.told n place list here in
      let some : has_other (outcomes (s.0 ++ s.1 ∷ [])) ≡ true = (λ i. has_other (outcomes (sym s.2 i))) ∙ ap has_other (sym told.0) ∙ told.1 in
      record { folder = s.0; name = s.1; place_is = s.2; is_name = kept.names s.0 s.1 some; in_directory = there_directory (node_at tree s.0) (by s.0 s.1 s.2 (kept.folders s.0 s.1 some)) }
    where
      by : (folder : NameList) (name : Name) → place ≡ folder ++ name ∷ [] → is_directory_at old folder ≡ true → content_at tree folder ≡ Some directory
      by folder name is was = elim (same_or_other folder []) [
        | inl e ↦ (λ i. content_at tree (e i)) ∙ so_far.top
        | inr low ↦
            let at = counts.all folder (directory_other old outcomes kept folder was) in
            so_far.taken at.0 folder (outcomes folder) (before at.0 at.1) at.1 low ∙ chosen_directory old outcomes kept choice at.0 folder was
      ]
        where
          later : name_list_cmp place folder ≡ Greater
          later = (λ i. name_list_cmp (is i) folder) ∙ folder_first folder name

          before : (k : ℕ) → slice_get lists k ≡ Some (folder, outcomes folder) → k < n
          before k at = elim (apart_numbers k n) [
            | inl low ↦ low
            | inr (inl same) ↦
                let both_are : Some (folder, outcomes folder) ≡ Some (place, list) = sym at ∙ ap (slice_get lists) same ∙ here in
                let place_is : folder ≡ place = ap (λ (e : NameList × List Outcome). e.0) (same_Some (folder, outcomes folder) (place, list) both_are) in
                cc (sym later ∙ (λ i. name_list_cmp place (place_is i)), tied_itself name_list_total place)
            | inr (inr high) ↦ cc (sym later ∙ ordered_at lists n k place folder list (outcomes folder) counts.in_order here at high)
          ]

  -- all places have what they take
  pub image_last : is_directory_at old [] ≡ true → length lists ≤ n → IsCrash outcomes choice tree
  image_last top all = record {
    places = keys_of lists;
    in_order = counts.in_order;
    are_all = λ q. ((λ e. let at = counts.all q e in (at.0, key_within lists at.0 q (outcomes q) at.1, key_at lists at.0 q q (outcomes q) at.1)), (λ at. listed at.0 q at.1 at.2));
    taken = λ i q low is. takes i q low is (same_or_other q []);
    devices = λ i q low is.
        let told = counts.told i q _ (entry i q low is) in
        subst (λ (os : List Outcome). HasDeviceOf (chosen choice i os) (dev_at tree q)) told.0 (so_far.devices i q _ (omega (arith, low, all, length-keys_of lists)) (entry i q low is));
    others = λ q none.
        let below : q ≢ [] = λ e. cc (sym none ∙ (λ i. has_other (outcomes (e i))) ∙ directory_other old outcomes kept [] top) in
        so_far.free q below (λ k list low at. let told = counts.told k q list at in cc (sym none ∙ ap has_other (sym told.0) ∙ told.1));
  }
    where
      -- the entry of a place
      entry : (i : ℕ) (q : NameList) → i < length (keys_of lists) → get_or (keys_of lists) i q ≡ q → slice_get lists i ≡ Some (q, (get_or lists i (q, [])).1)
      entry i q low is =
          let at : slice_get lists i ≡ Some (get_or lists i (q, [])) = slice_get-get_or lists i (q, []) (omega (arith, low, length-keys_of lists)) in
          let key : (get_or lists i (q, [])).0 ≡ q = sym (key_at lists i (get_or lists i (q, [])).0 q (get_or lists i (q, [])).1 at) ∙ is in
          at ∙ (λ j. Some (key j, (get_or lists i (q, [])).1))

      listed : (i : ℕ) (q : NameList) → i < length (keys_of lists) → get_or (keys_of lists) i q ≡ q → has_other (outcomes q) ≡ true
      listed i q low is = let told = counts.told i q _ (entry i q low is) in ap has_other (sym told.0) ∙ told.1

      takes : (i : ℕ) (q : NameList) → i < length (keys_of lists) → get_or (keys_of lists) i q ≡ q → (q ≡ []) ⊎ (q ≢ []) → content_at tree q ≡ crash_content (chosen choice i (outcomes q))
      takes i q low is (inl e) = (λ j. content_at tree (e j)) ∙ so_far.top ∙ sym (chosen_directory old outcomes kept choice i [] top) ∙ (λ j. crash_content (chosen choice i (outcomes (sym e j))))
      takes i q low is (inr below) =
          let told = counts.told i q _ (entry i q low is) in
          so_far.taken i q _ (omega (arith, low, all, length-keys_of lists)) (entry i q low is) below ∙ (λ j. crash_content (chosen choice i (told.0 j)))
