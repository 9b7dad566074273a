-- The entries of a directory, sorted by file name, in the strict order of their names.
use Rattle.std.proofs.Common.{◌≡◌, Bool, true, false, cond, List, [], ◌∷◌, ◌++◌, map, refl, sym, ap, ◌∙◌, subst, IsPermutation, Ordering}
use Rattle.std.specs.Prelude.{IsSome, is_some, Contains}
use Rattle.std.specs.List.{AllByRecursion, IsDistinct}
use Rattle.std.specs.List.Sorted.{IsSortedByKey, IsStrictlySortedBy}
use Rattle.std.specs.Ordering.{is_lt, eq_by_cmp}
use Rattle.std.specs.Cmp.{IsTotalOrder}
use Rattle.std.proofs.lemmas.List.Elements.{All-from_recursion, recursion_from_All}
use Rattle.std.proofs.lemmas.List.Sorted.{All-permutation, Contains-permutation, IsPermutation-map, IsPermutation-refl, IsPermutation-cons, IsPermutation-trans, IsPermutation-middle}
use Rattle.std.proofs.lemmas.Option.{same_Some}
use Rattle.sd_io.specs.Tree.{NameList, Name, Tree, IsTree, IsName, name_cmp, node_at, is_directory_at}
use Rattle.sd_io.specs.Files.{path_text}
use Rattle.sd_io.specs.Lists.{Tells, TellAll, directory_of}
use Rattle.sd_io.specs.declared.meta.RawEntry.{RawEntry}
use Rattle.sd_io.proofs.PathTextLemmas.{text_directory}
use Rattle.walk_rest.specs.declared.entry.DirEntry.{DirEntry}
use Rattle.walk_rest.specs.declared.level.Folder.{Folder}
use Rattle.walk_rest.specs.Names.{by_file_name}
use Rattle.walk_rest.specs.Plan.{ListsNames, entry_below, insert, sorted}
use Rattle.walk_rest.proofs.NameLemmas.{by_names}
use Rattle.walk_rest.proofs.SortLemmas.{less, less_weak, sorted_up, near_from_up}
use Rattle.chosen_files.proofs.laws.EntryLemmas.{names_of, strictly_sorted, told_names, each_told, in_from_any}
use Rattle.chosen_files.proofs.laws.PlaceLemmas.{In, in_from_contains, contains_from_in, name_total}

-- ---- sorting

abbrev by_name : RawEntry → RawEntry → Ordering
by_name a b = name_cmp a.name b.name

by_name_total : IsTotalOrder by_name
by_name_total = record {
  antisymm = λ x y. name_total.antisymm x.name y.name;
  trans = λ x y z. name_total.trans x.name y.name z.name;
  congr = λ x y z. name_total.congr x.name y.name z.name;
}

all_insert : {X : Type 0} (P : X → Type 0) (compare : X → X → Ordering) (x : X) (ys : List X) → P x → AllByRecursion P ys
    → AllByRecursion P (insert compare x ys)
all_insert P compare x [] p h = (p, tt)
all_insert {X} P compare x (y ∷ ys) p h = by (all_insert P compare x ys p h.1) (is_lt (compare y x))
  where
    by : AllByRecursion P (insert compare x ys) → (b : Bool) → AllByRecursion P (cond b (y ∷ insert compare x ys) (x ∷ y ∷ ys))
    by r true = (h.0, r)
    by r false = (p, h)

all_sorted : {X : Type 0} (P : X → Type 0) (compare : X → X → Ordering) (xs : List X) → AllByRecursion P xs → AllByRecursion P (sorted compare xs)
all_sorted P compare [] h = tt
all_sorted P compare (x ∷ xs) h = all_insert P compare x (sorted compare xs) h.0 (all_sorted P compare xs h.1)

-- what is sorted by a comparison of images is the images of what is sorted by the same comparison
module _ {X Y : Type 0} (g : X → Y) (P : X → Type 0) (c : X → X → Ordering) (d : Y → Y → Ordering) (same : (a b : X) → P a → P b → d (g a) (g b) ≡ c a b) where
  insert_map : (x : X) (ys : List X) → P x → AllByRecursion P ys → insert d (g x) (map g ys) ≡ map g (insert c x ys)
  insert_map x [] p h = refl
  insert_map x (y ∷ ys) p h = by (insert_map x ys p h.1) (is_lt (c y x)) ∙ refl
    where
      by : insert d (g x) (map g ys) ≡ map g (insert c x ys) → (b : Bool) → insert d (g x) (map g (y ∷ ys)) ≡ map g (insert c x (y ∷ ys))
      by r b = (λ i. cond (is_lt (same y x h.0 p i)) (g y ∷ r i) (g x ∷ g y ∷ map g ys)) ∙ push (is_lt (c y x))
        where
          push : (b : Bool) → cond b (g y ∷ map g (insert c x ys)) (g x ∷ g y ∷ map g ys) ≡ map g (cond b (y ∷ insert c x ys) (x ∷ y ∷ ys))
          push true = refl
          push false = refl

  sorted_map : (xs : List X) → AllByRecursion P xs → sorted d (map g xs) ≡ map g (sorted c xs)
  sorted_map [] h = refl
  sorted_map (x ∷ xs) h = ap (insert d (g x)) (sorted_map xs h.1) ∙ insert_map x (sorted c xs) h.0 (all_sorted P c xs h.1)

insert_moves : {X : Type 0} (c : X → X → Ordering) (x : X) (ys : List X) → IsPermutation (x ∷ ys) (insert c x ys)
insert_moves c x [] = IsPermutation-refl (x ∷ [])
insert_moves {X} c x (y ∷ ys) = by (insert_moves c x ys) (is_lt (c y x))
  where
    by : IsPermutation (x ∷ ys) (insert c x ys) → (b : Bool) → IsPermutation (x ∷ y ∷ ys) (cond b (y ∷ insert c x ys) (x ∷ y ∷ ys))
    by r true =
        IsPermutation-trans (x ∷ y ∷ ys) (y ∷ x ∷ ys) (y ∷ insert c x ys)
        (IsPermutation-middle (x ∷ []) y ys) (IsPermutation-cons y (x ∷ ys) (insert c x ys) r)
    by r false = IsPermutation-refl (x ∷ y ∷ ys)

sorted_moves : {X : Type 0} (c : X → X → Ordering) (xs : List X) → IsPermutation xs (sorted c xs)
sorted_moves c [] = IsPermutation-refl []
sorted_moves c (x ∷ xs) =
    IsPermutation-trans (x ∷ xs) (x ∷ sorted c xs) (insert c x (sorted c xs))
    (IsPermutation-cons x xs (sorted c xs) (sorted_moves c xs)) (insert_moves c x (sorted c xs))

sorted_by_name : (raws : List RawEntry) → IsSortedByKey (λ entry. entry.name) name_cmp (sorted by_name raws)
sorted_by_name raws k d from_first within =
    near_from_up (less by_name) (sorted by_name raws) (sorted_up by_name (less_weak by_name by_name_total) raws) k d within

-- ---- a directory's entries

-- the entries of a directory in the order of their names, each with what it tells of, and none left out
pub record AreInOrder (tree : Tree) (place : NameList) (folder : Folder) (entries : List DirEntry) : Type 0 where
  pub raws : List RawEntry
  pub entries_are : entries ≡ map (entry_below folder) raws
  pub up : IsStrictlySortedBy name_cmp (names_of raws)
  pub each : AllByRecursion (λ raw. Tells tree place raw.name raw) raws
  pub all : (name : Name) → IsSome (node_at tree (place ++ name ∷ [])) → In name (names_of raws)

names_real : (tree : Tree) → IsTree tree → (place : NameList) (raws : List RawEntry) → AllByRecursion (λ raw. Tells tree place raw.name raw) raws
    → AllByRecursion (λ raw. IsName raw.name) raws
names_real tree is place [] h = tt
names_real tree is place (raw ∷ raws) h = (is.names place raw.name (ap is_some h.0.stands), names_real tree is place raws h.1)

pub in_order_by_name : (tree : Tree) (place : NameList) (folder : Folder) (entries : List DirEntry) (listed : List RawEntry) → IsTree tree
    → is_directory_at tree place ≡ true → folder.path ≡ path_text place → ListsNames tree folder.path listed
    → entries ≡ sorted by_file_name (map (entry_below folder) listed) → AreInOrder tree place folder entries
in_order_by_name tree place folder entries listed is there text names ordered =
    let TellsOwn : RawEntry → Type 0 = λ raw. Tells tree place raw.name raw in
    let raws = sorted by_name listed in
    let moved = sorted_moves by_name listed in
    let here : names.folder ≡ place = same_Some names.folder place (sym names.leads ∙ ap (directory_of tree) text ∙ text_directory tree place is there) in
    let told = subst (λ (at : NameList). TellAll tree at (tree.order at) listed) here names.told in
    let listed_are : names_of listed ≡ tree.order place = told_names tree place (tree.order place) listed told in
    let each = each_told tree place (tree.order place) listed told in
    record {
      raws = raws;
      entries_are = ordered
          ∙ sorted_map (entry_below folder) (λ raw. IsName raw.name) by_name by_file_name (by_names folder) listed (names_real tree is place listed each);
      up = strictly_sorted listed raws moved
          (subst (λ (names : List Name). IsDistinct (eq_by_cmp name_cmp) names) (sym listed_are) (is.order_once place)) (sorted_by_name listed);
      each = recursion_from_All TellsOwn raws (All-permutation TellsOwn listed raws moved (All-from_recursion TellsOwn listed each));
      all = λ name stands.
          let known : In name (tree.order place) = in_from_any name (tree.order place) (is.order_all place name ∙ stands) in
          let before : Contains (names_of listed) name =
          contains_from_in (names_of listed) name (subst (λ (names : List Name). In name names) (sym listed_are) known) in
          in_from_contains (names_of raws) name
          (Contains-permutation (names_of listed) (names_of raws) name (IsPermutation-map (λ raw. raw.name) listed raws moved) before);
    }
