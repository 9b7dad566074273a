-- Few entries lie below the root of a demo.
use Rattle.std.proofs.Common.{◌≡◌, ◌≢◌, ℕ, zero, suc, ◌+◌, ◌<◌, ◌≤◌, ◌^◌, Bool, true, false, cond, List, []}
use Rattle.std.proofs.Common.{◌∷◌, ◌++◌, map, length, inl, inr, refl, sym, ap, ◌∙◌, subst, Ordering, Less, length-append, arith}
use Rattle.std.specs.Prelude.{◌||◌, ◌&&◌, T, IsSome, codes}
use Rattle.std.specs.declared.cmp.Ordering.TheVariants.{Equal, Greater}
use Rattle.std.specs.List.{AllByRecursion, list_any, range_with_len, filter}
use Rattle.std.specs.List.Sorted.{IsStrictlySortedBy}
use Rattle.std.specs.Ordering.{is_lt, is_eq, eq_by_cmp}
use Rattle.std.specs.Cmp.{tied_itself, eq_by_cmp_equiv}
use Rattle.std.specs.Cmp.Lexicographic.{bytes_decides}
use Rattle.std.specs.Str.{bytes_eq}
use Rattle.std.specs.FinMap.{entries, entries_sorted, keys, contains_key-keys, slice_cmp-IsAntisymmetric, nat_cmp-IsAntisymmetric}
use Rattle.std.specs.FinMap.Entries.{is_sorted, below_all}
use Rattle.std.proofs.lemmas.List.Kept.{IsStrictlySortedBy-filter}
use Rattle.std.proofs.lemmas.List.FromFn.{length-map-range_with_len}
use Rattle.std.proofs.lemmas.Map.Keys.{IsDistinct-from_sorted}
use Rattle.std.proofs.lemmas.Map.Made.{length-le_from_is_member}
use Rattle.sd_io.specs.Tree.{NameList, Content, Node, Tree, name_list_cmp, node_at}
use Rattle.sd_io.specs.Files.{path_text}
use Rattle.chosen_files.specs.Chosen.{IsListOf}
use Rattle.chosen_files.specs.Below.{IsBelow, HasFewerBelow}
use Rattle.chosen_files.proofs.PlaceLemmas.{In, in_from_contains, contains_from_in, in_left, in_right, place_total}
use Rattle.demo_tree.specs.Demo.{demo_place, demo_folder, demo_file, IsDemo}
use Rattle.demo_tree.proofs.ContentLemmas.{split_eq}
use Rattle.sd_core.proofs.demo.StandingLemmas.{StandsSo, stands_so, content_there, demo_leads}

-- ---- the places of a tree, in order

less_from : (o : Ordering) → T (is_lt o) → o ≡ Less
less_from Less h = refl
less_from Equal h = absurd h
less_from Greater h = absurd h

equal_from : (o : Ordering) → is_eq o ≡ true → o ≡ Equal
equal_from Less h = cc
equal_from Equal h = refl
equal_from Greater h = cc

both_from : (a b : Bool) → T (a && b) → T a × T b
both_from true b h = (tt, h)
both_from false b h = absurd h

all_after : (place : NameList) (es : List (NameList × Node)) → T (below_all name_list_cmp place es)
    → AllByRecursion (λ q. name_list_cmp place q ≡ Less) (map (λ e. e.0) es)
all_after place [] h = tt
all_after place (e ∷ es) h =
    let (here, rest) = both_from (is_lt (name_list_cmp place e.0)) (below_all name_list_cmp place es) h in
    (less_from (name_list_cmp place e.0) here, all_after place es rest)

in_order : (es : List (NameList × Node)) → T (is_sorted name_list_cmp es) → IsStrictlySortedBy name_list_cmp (map (λ e. e.0) es)
unfolding IsStrictlySortedBy
in_order [] h = tt
in_order (e ∷ es) h =
    let (here, rest) = both_from (below_all name_list_cmp e.0 es) (is_sorted name_list_cmp es) h in
    (all_after e.0 es here, in_order es rest)

-- ---- members by a test

or_true : (b : Bool) → (b || true) ≡ true
or_true true = refl
or_true false = refl

pub any_from_in : (q : NameList) (ks : List NameList) → In q ks → list_any (eq_by_cmp name_list_cmp q) ks ≡ true
any_from_in q [] i = absurd i
any_from_in q (k ∷ ks) (inl e) =
    ap (λ b. b || list_any (eq_by_cmp name_list_cmp q) ks) (ap (λ p. is_eq (name_list_cmp q p)) e ∙ ap is_eq (tied_itself place_total q))
any_from_in q (k ∷ ks) (inr i) = ap (λ b. eq_by_cmp name_list_cmp q k || b) (any_from_in q ks i) ∙ or_true (eq_by_cmp name_list_cmp q k)

pub in_from_any : (q : NameList) (ks : List NameList) → list_any (eq_by_cmp name_list_cmp q) ks ≡ true → In q ks
in_from_any q [] e = cc
in_from_any q (k ∷ ks) e = by (eq_by_cmp name_list_cmp q k) refl (in_from_any q ks) e
  where
    by : (b : Bool) → eq_by_cmp name_list_cmp q k ≡ b → (list_any (eq_by_cmp name_list_cmp q) ks ≡ true → In q ks)
        → (b || list_any (eq_by_cmp name_list_cmp q) ks) ≡ true → In q (k ∷ ks)
    by true here later e = inl (sym (slice_cmp-IsAntisymmetric (slice_cmp-IsAntisymmetric nat_cmp-IsAntisymmetric) q k (equal_from (name_list_cmp q k) here)))
    by false away later e = inr (later e)

in_filtered : (p : NameList → Bool) (ks : List NameList) (q : NameList) → In q (filter p ks) → In q ks × (p q ≡ true)
in_filtered p [] q i = absurd i
in_filtered p (k ∷ ks) q i = by (p k) refl (in_filtered p ks q) i
  where
    by : (b : Bool) → p k ≡ b → (In q (filter p ks) → In q ks × (p q ≡ true)) → In q (cond b (k ∷ filter p ks) (filter p ks)) → In q (k ∷ ks) × (p q ≡ true)
    by true here later (inl e) = (inl e, ap p (sym e) ∙ here)
    by true here later (inr i) = let (there, passes) = later i in (inr there, passes)
    by false away later i = let (there, passes) = later i in (inr there, passes)

in_filter : (p : NameList → Bool) (ks : List NameList) (q : NameList) → In q ks → p q ≡ true → In q (filter p ks)
in_filter p [] q i passes = absurd i
in_filter p (k ∷ ks) q (inl e) passes = subst (λ b. In q (cond b (k ∷ filter p ks) (filter p ks))) (sym (ap p e ∙ passes)) (inl e)
in_filter p (k ∷ ks) q (inr i) passes = elim (p k) as (λ b. In q (cond b (k ∷ filter p ks) (filter p ks))) [
  | true ↦ inr (in_filter p ks q i passes)
  | false ↦ in_filter p ks q i passes
]

-- ---- below `/demo`

is_below : NameList → Bool
is_below [] = false
is_below (first ∷ []) = false
is_below (first ∷ next ∷ names) = bytes_eq first (codes "demo")

below_means : (q : NameList) → is_below q ≡ true → (names : NameList) × (q ≡ demo_place ++ names) × (names ≢ [])
unfolding is_below
below_means [] e = cc
below_means (first ∷ []) e = cc
below_means (first ∷ next ∷ names) e = (next ∷ names, ap (λ name. name ∷ next ∷ names) ((bytes_decides first (codes "demo")).0 e), λ none. cc)

below_passes : (names : NameList) → names ≢ [] → is_below (demo_place ++ names) ≡ true
unfolding is_below
below_passes [] some = absurd (some refl)
below_passes (next ∷ names) some = refl

places_of : Tree → List NameList
places_of tree = keys tree.nodes

below_demo : Tree → List NameList
below_demo tree = filter is_below (places_of tree)

stands_in : (tree : Tree) (q : NameList) → In q (places_of tree) → IsSome (node_at tree q)
unfolding places_of
stands_in tree q i = contains_key-keys tree.nodes q ∙ any_from_in q (keys tree.nodes) i

in_standing : (tree : Tree) (q : NameList) → IsSome (node_at tree q) → In q (places_of tree)
unfolding places_of
in_standing tree q stands = in_from_any q (keys tree.nodes) (sym (contains_key-keys tree.nodes q) ∙ stands)

below_in_order : (tree : Tree) → IsStrictlySortedBy name_list_cmp (below_demo tree)
unfolding below_demo places_of
below_in_order tree = IsStrictlySortedBy-filter name_list_cmp is_below (keys tree.nodes) (in_order (entries tree.nodes) (entries_sorted tree.nodes))

below_are_all : (tree : Tree) → IsListOf (IsBelow tree demo_place) (below_demo tree)
unfolding below_demo
below_are_all tree = record {
  in_order = below_in_order tree;
  these = λ q. (
    (λ has.
        let (there, passes) = in_filtered is_below (places_of tree) q (in_from_contains (filter is_below (places_of tree)) q has) in
        let (names, is, some) = below_means q passes in
        (names, is, some, stands_in tree q there)),
    (λ (names, is, some, stands).
        contains_from_in (filter is_below (places_of tree)) q (in_filter is_below (places_of tree) q (in_standing tree q stands) (ap is_below is
        ∙ below_passes names some))),
  );
}

-- ---- few

in_range : {X : Type 0} (f : ℕ → X) (a n k : ℕ) → a ≤ k → k < a + n → In (f k) (map f (range_with_len a n))
in_range f a zero k low high = absurd (omega arith)
in_range f a (suc n) k low high = elim (split_eq a k) [ inl e ↦ inl (ap f e) | inr away ↦ inr (in_range f (a + 1) n k (omega arith) (omega arith)) ]

-- all places of a demo, some of them more than once
demo_places : ℕ → List NameList
demo_places n = [] ∷ demo_place ∷ (map demo_folder (range_with_len 0 n) ++ map (λ k. (demo_file k).place) (range_with_len 0 n))

length_places : (n : ℕ) → length (demo_places n) ≡ n + n + 2
unfolding demo_places
length_places n =
    let folders = map demo_folder (range_with_len 0 n) in
    let files = map (λ k. (demo_file k).place) (range_with_len 0 n) in
    omega (arith, length-append folders files, length-map-range_with_len demo_folder 0 n, length-map-range_with_len (λ k. (demo_file k).place) 0 n)

in_places : (n : ℕ) (q : NameList) (content : Content) → StandsSo n q content → In q (demo_places n)
unfolding demo_places
in_places n q content (inl (is, inl e)) = inl (sym e)
in_places n q content (inl (is, inr (inl e))) = inr (inl (sym e))
in_places n q content (inl (is, inr (inr (k, low, e)))) =
    let folders = map demo_folder (range_with_len 0 n) in
    let files = map (λ k. (demo_file k).place) (range_with_len 0 n) in
    inr (inr (in_left folders files q (subst (λ (p : NameList). In p folders) (sym e) (in_range demo_folder 0 n k (omega arith) (omega arith)))))
in_places n q content (inr (k, low, e, is)) =
    let folders = map demo_folder (range_with_len 0 n) in
    let files = map (λ k. (demo_file k).place) (range_with_len 0 n) in
    inr (inr (in_right folders files q (subst (λ (p : NameList). In p files) (sym e) (in_range (λ k. (demo_file k).place) 0 n k (omega arith) (omega arith)))))

few_below_demo : (n : ℕ) (tree : Tree) → IsDemo n tree → length (below_demo tree) ≤ n + n + 2
unfolding below_demo
few_below_demo n tree demo =
    let shorter = length-le_from_is_member (eq_by_cmp_equiv place_total) (below_demo tree) (demo_places n)
    (IsDistinct-from_sorted name_list_cmp (below_demo tree) (below_in_order tree))
    (λ q member.
    let (there, passes) = in_filtered is_below (places_of tree) q (in_from_any q (filter is_below (places_of tree)) member) in
    let (content, is) = content_there (node_at tree q) (stands_in tree q there) in
    any_from_in q (demo_places n) (in_places n q content (stands_so n q content (sym (demo.holds q) ∙ is)))) in
    omega (arith, shorter, length_places n)

pub demo_is_small : (n : ℕ) (tree : Tree) → n ≤ 100000 → IsDemo n tree → HasFewerBelow (2 ^ 32) tree (path_text demo_place)
demo_is_small n tree small demo =
    let few = few_below_demo n tree demo in
    (below_demo tree, record { top = demo_place; leads = demo_leads n tree demo; are_all = below_are_all tree }, omega (arith, few))
