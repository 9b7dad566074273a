-- The list of what a fact holds of is one.
use Rattle.std.proofs.Common.{◌≡◌, ◌≤◌, inl, inr, ℕ, arith, length, List, [], ◌∷◌, ◌++◌, map, refl, sym, subst, ap, ◌∙◌, Ordering, Less}
use Rattle.std.specs.List.Sorted.{IsStrictlySortedBy}
use Rattle.std.specs.Cmp.{IsTotalOrder, tied_itself}
use Rattle.sd_io.specs.Tree.{NameList, Tree, name_list_cmp}
use Rattle.std.proofs.lemmas.List.{append_cancel_left}
use Rattle.std.proofs.lemmas.List.Elements.{recursion_from_All}
use Rattle.chosen_files.specs.Below.{IsBelow, HasFewerBelow, HasManyBelow}
use Rattle.chosen_files.specs.Chosen.{IsListOf, Chosen, path_from, ListsChosen}
use Rattle.chosen_files.proofs.laws.PlaceLemmas.{In, in_from_contains, contains_from_in, in_from_all, place_total}

-- what comes before itself isn't there
not_less_itself : {X : Type 0} {c : X → X → Ordering} → IsTotalOrder c → (x : X) → c x x ≡ Less → {A : Type 0} → A
not_less_itself o x less = let tied = tied_itself o x in cc

module _ {X : Type 0} (c : X → X → Ordering) (o : IsTotalOrder c) where
  -- an element of the one list stands in the other one
  abbrev SameIn : List X → List X → Type 0
  SameIn xs ys = ((z : X) → In z xs → In z ys) × ((z : X) → In z ys → In z xs)

  -- the first elements are the same
  same_first : (x y : X) (xs ys : List X) → IsStrictlySortedBy c (x ∷ xs) → IsStrictlySortedBy c (y ∷ ys) → SameIn (x ∷ xs) (y ∷ ys) → x ≡ y
  unfolding IsStrictlySortedBy
  same_first x y xs ys h k same = elim (same.0 x (inl refl)) [
    | inl e ↦ sym e
    | inr i ↦ elim (same.1 y (inl refl)) [
      | inl e ↦ e
      | inr j ↦
          let after : c y x ≡ Less = in_from_all (λ z. c y z ≡ Less) ys k.0 x i in
          let before : c x y ≡ Less = in_from_all (λ z. c x z ≡ Less) xs h.0 y j in
          not_less_itself o x (o.trans x y x before after)
    ]
  ]

  -- what follows the first element is another one
  not_first : (x z : X) (xs : List X) → IsStrictlySortedBy c (x ∷ xs) → In z xs → x ≡ z → ⊥
  unfolding IsStrictlySortedBy
  not_first x z xs h i same = not_less_itself o x (subst (λ (y : X). c x y ≡ Less) (sym same) (in_from_all (λ y. c x y ≡ Less) xs h.0 z i))

  -- what follows the first elements is the same
  rest_in : (x y z : X) (xs ys : List X) → IsStrictlySortedBy c (x ∷ xs) → x ≡ y → ((z : X) → In z (x ∷ xs) → In z (y ∷ ys)) → In z xs → In z ys
  rest_in x y z xs ys h same there i = elim (there z (inr i)) [ inl e ↦ absurd (not_first x z xs h i (same ∙ e)) | inr j ↦ j ]

  -- two lists in strict order with the same elements are one
  pub one_in_order : (xs ys : List X) → IsStrictlySortedBy c xs → IsStrictlySortedBy c ys → SameIn xs ys → xs ≡ ys
  unfolding IsStrictlySortedBy
  one_in_order [] [] h k same = refl
  one_in_order [] (y ∷ ys) h k same = absurd (same.1 y (inl refl))
  one_in_order (x ∷ xs) [] h k same = absurd (same.0 x (inl refl))
  one_in_order (x ∷ xs) (y ∷ ys) h k same =
      let first = same_first x y xs ys h k same in
      let rest = one_in_order xs ys h.1 k.1 ((λ z i. rest_in x y z xs ys h first same.0 i), (λ z i. rest_in y x z ys xs k (sym first) same.1 i)) in
      λ i. first i ∷ rest i

  -- a list in strict order is no longer than one that has its elements
  pub no_longer : (xs ys : List X) → IsStrictlySortedBy c xs → IsStrictlySortedBy c ys → ((z : X) → In z xs → In z ys) → length xs ≤ length ys
  unfolding IsStrictlySortedBy
  no_longer [] ys h k there = omega arith
  no_longer (x ∷ xs) [] h k there = absurd (there x (inl refl))
  no_longer (x ∷ xs) (y ∷ ys) h k there = elim (there x (inl refl)) [
    | inl e ↦ (let r = no_longer xs ys h.1 k.1 (λ z i. rest_in x y z xs ys h (sym e) there i) in omega (arith, r))
    | inr i ↦
        (let before : c y x ≡ Less = in_from_all (λ z. c y z ≡ Less) ys k.0 x i in
        let later : (z : X) → In z (x ∷ xs) → c y z ≡ Less = λ z j. elim j [
          | inl e ↦ subst (λ (w : X). c y w ≡ Less) e before
          | inr l ↦ o.trans y x z before (in_from_all (λ w. c x w ≡ Less) xs h.0 z l)
        ] in
        let r = no_longer (x ∷ xs) ys h k.1 (λ z j. elim (there z j) [
          | inl e ↦ not_less_itself o y (subst (λ (w : X). c y w ≡ Less) (sym e) (later z j))
          | inr l ↦ l
        ]) in
        omega (arith, r))
  ]

-- there is one list of the name lists of which a fact holds
pub one_list_of : (P : NameList → Type 0) (xs ys : List NameList) → IsListOf P xs → IsListOf P ys → xs ≡ ys
one_list_of P xs ys h k =
    one_in_order name_list_cmp place_total xs ys h.in_order k.in_order (
      (λ z i. in_from_contains ys z ((k.these z).1 ((h.these z).0 (contains_from_in xs z i)))),
      (λ z i. in_from_contains xs z ((h.these z).1 ((k.these z).0 (contains_from_in ys z i)))),
    )

-- there is one list of chosen files
pub one_chosen : (tree : Tree) (root : NameList) (globs : List (List ℕ)) (xs ys : List NameList) → Chosen tree root globs xs → Chosen tree root globs ys → xs ≡ ys
one_chosen tree root globs xs ys h k = one_list_of _ xs ys h k

-- places below a top differ where their names do
same_names : (top : NameList) (xs ys : List NameList) → map (λ below. top ++ below) xs ≡ map (λ below. top ++ below) ys → xs ≡ ys
same_names top [] [] e = refl
same_names top [] (y ∷ ys) e = cc
same_names top (x ∷ xs) [] e = cc
same_names top (x ∷ xs) (y ∷ ys) e =
    let first = append_cancel_left top x y (cc e) in
    let rest = same_names top xs ys (cc e) in
    λ i. first i ∷ rest i

-- and one list of their paths
pub one_list_of_paths : (tree : Tree) (root : List ℕ) (globs : List (List ℕ)) (xs ys : List (List ℕ)) → ListsChosen tree root globs xs → ListsChosen tree root globs ys → xs ≡ ys
one_list_of_paths tree root globs xs ys h k =
    let top : k.top ≡ h.top = cc (h.leads, k.leads) in
    let same = one_chosen tree h.top globs h.places k.places h.chosen (subst (λ (t : NameList). Chosen tree t globs k.places) top k.chosen) in
    let below : map (λ below. h.top ++ below) h.names ≡ map (λ below. h.top ++ below) k.names =
    sym h.places_are ∙ same ∙ k.places_are ∙ ap (λ (t : NameList). map (λ below. t ++ below) k.names) top in
    h.paths_are ∙ ap (map (path_from root)) (same_names h.top h.names k.names below) ∙ sym k.paths_are

-- not both fewer than so many and so many or more entries lie below a root
pub fewer_not_many : (cap : ℕ) (tree : Tree) (root : List ℕ) → HasFewerBelow cap tree root → HasManyBelow cap tree root → ⊥
fewer_not_many cap tree root (places, all, few) (found, finds, many) =
    let top : finds.top ≡ all.top = cc (finds.leads, all.leads) in
    let longer = no_longer name_list_cmp place_total found places finds.in_order all.are_all.in_order
    (λ z i. in_from_contains places z ((all.are_all.these z).1 (subst (λ (t : NameList). IsBelow tree t z) top
    (in_from_all (IsBelow tree finds.top) found (recursion_from_All (IsBelow tree finds.top) found finds.each) z i)))) in
    omega (arith, longer, few, many)
