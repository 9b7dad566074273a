-- What is chosen of the examples' tree.
use Rattle.std.proofs.Common.{◌≡◌, ◌≢◌, ℕ, zero, suc, ◌+◌, ◌<◌, true, List, [], ◌∷◌, Some, None, refl, sym, ◌∙◌, ap, subst, inl, inr, arith}
use Rattle.std.specs.Prelude.{codes, slice_get, IsSome, is_some}
use Rattle.std.specs.List.{join_with_byte}
use Rattle.std.specs.List.Sorted.{IsStrictlySortedBy}
use Rattle.std.specs.FinMap.{find}
use Rattle.std.proofs.lemmas.List.{append_cancel_left}
use Rattle.std.proofs.lemmas.Option.{same_Some}
use Rattle.sd_io.specs.Tree.{NameList, directory, Tree, name_list_cmp, node_at, file_at, file_node, is_directory_at, is_directory_node}
use Rattle.sd_io.specs.Paths.{parts_of, reached}
use Rattle.walk_rest.specs.Examples.{tree_with}
use Rattle.file_rewrite.specs.Examples.{a_place}
use Rattle.chosen_files.specs.Below.{IsBelow, HasFewerBelow}
use Rattle.chosen_files.specs.Chosen.{IsChosen, Chosen, path_from, ListsChosen}
use Rattle.chosen_files.specs.Globs.{FitsAny}
use Rattle.chosen_files.proofs.ContentLemmas.{file_stands}
use Rattle.chosen_files.proofs.PlaceLemmas.{In, in_from_contains, contains_from_in}
use Rattle.chosen_files.proofs.GlobLemmas.{fits_one, fits_only}
use Rattle.chosen_files.proofs.StandsLemmas.{node_is, stands_at_key, leads_to, leads_nowhere}
use Rattle.many_files.specs.Examples.{b_place}
use Rattle.sd_core.specs.Examples.{t_nodes, txt}

abbrev pub t_place : NameList
t_place = codes "t" ∷ []

-- ---- the glob

no_slash : (place : ℕ) → place < 1 → slice_get (codes "a.txt") place ≢ Some 47
no_slash place within e =
    let first : place ≡ 0 = omega (arith, within) in
    let same : 97 ≡ 47 = same_Some 97 47 (subst (λ n. slice_get (codes "a.txt") n ≡ Some 47) first e) in
    omega (arith, same)

a_fits : FitsAny txt (codes "a.txt")
a_fits =
    fits_one (codes "*.txt") (codes "a.txt") (omega arith, (omega arith, (omega arith, (omega arith, (omega arith, tt)))))
    (omega arith, (omega arith, (omega arith, (omega arith, (omega arith, tt))))) (
      1,
      (omega arith, omega arith, λ place from to. no_slash place to),
      (2, (46, refl, refl, refl), (3, (116, refl, refl, refl), (4, (120, refl, refl, refl), (5, (116, refl, refl, refl), refl)))),
    )

-- `.` and `t` stand nowhere side by side
no_txt : (at next c d : ℕ) → slice_get (codes "b.md") at ≡ Some c → c ≡ 46 → next ≡ at + 1 → slice_get (codes "b.md") next ≡ Some d → d ≡ 116 → ⊥
no_txt zero next c d dot is step t is_t = let first : 98 ≡ c = same_Some 98 c dot in omega (arith, first, is)
no_txt (suc zero) next c d dot is step t is_t =
    let two : next ≡ 2 = omega (arith, step) in
    let third : 109 ≡ d = same_Some 109 d (subst (λ (n : ℕ). slice_get (codes "b.md") n ≡ Some d) two t) in
    omega (arith, third, is_t)
no_txt (suc (suc zero)) next c d dot is step t is_t = let third : 109 ≡ c = same_Some 109 c dot in omega (arith, third, is)
no_txt (suc (suc (suc zero))) next c d dot is step t is_t = let last : 100 ≡ c = same_Some 100 c dot in omega (arith, last, is)
no_txt (suc (suc (suc (suc at)))) next c d dot is step t is_t = cc dot

b_fits_not : ¬ FitsAny txt (codes "b.md")
b_fits_not any =
    let (mid, run, (next, (c, dot, is, step), (last, (d, t, is_t, on), rest))) =
    fits_only (codes "*.txt") (codes "b.md") (omega arith, (omega arith, (omega arith, (omega arith, (omega arith, tt)))))
    (omega arith, (omega arith, (omega arith, (omega arith, tt)))) any in
    no_txt mid next c d dot is step t is_t

-- ---- the tree

top_there : is_directory_at (tree_with t_nodes) [] ≡ true
top_there = ap is_directory_node (node_is t_nodes [])

pub to_t : reached (tree_with t_nodes) (codes "/t") true ≡ Some t_place
unfolding parts_of
to_t = leads_to (tree_with t_nodes) top_there (codes "/t") (codes "t") refl refl refl directory 0 2 (node_is t_nodes t_place) (λ target e. cc)

pub to_t_by_dot : reached (tree_with t_nodes) (codes "./t/") true ≡ Some t_place
unfolding parts_of
to_t_by_dot = leads_to (tree_with t_nodes) top_there (codes "./t/") (codes "t") refl refl refl directory 0 2 (node_is t_nodes t_place) (λ target e. cc)

pub to_none : reached (tree_with t_nodes) (codes "/n") true ≡ None
unfolding parts_of
to_none = leads_nowhere (tree_with t_nodes) top_there (codes "/n") (codes "n") refl refl refl (node_is t_nodes (codes "n" ∷ []))

module _ (tree : Tree) (same : tree ≡ tree_with t_nodes) where
  stands : (place : NameList) → node_at tree place ≡ find name_list_cmp place t_nodes
  stands place = ap (λ (t : Tree). node_at t place) same ∙ node_is t_nodes place

  pub a_file : file_at tree a_place ≡ Some (codes "one two one", 416)
  a_file = ap file_node (stands a_place)

  at_key : (place : NameList) → IsSome (node_at tree place) → In place ([] ∷ t_place ∷ a_place ∷ b_place ∷ [])
  at_key place some = stands_at_key t_nodes place (subst (λ (t : Tree). IsSome (node_at t place)) same some)

  pub a_chosen : IsChosen tree t_place txt a_place
  a_chosen = record {
    names = codes "a.txt" ∷ [];
    below = refl;
    proper = λ none. cc;
    is_file = (111, codes "ne two one", 416, a_file);
    fits = a_fits;
  }

  only_a : (place : NameList) → IsChosen tree t_place txt place → In place (a_place ∷ [])
  only_a place chosen =
      let (byte, bytes, mode, e) = chosen.is_file in
      elim (at_key place (file_stands (node_at tree place) (byte ∷ bytes, mode) e)) [
        | inl top ↦ (let below = chosen.below in absurd (cc (top, below)))
        | inr (inl t) ↦ absurd (chosen.proper (append_cancel_left t_place chosen.names [] (sym chosen.below ∙ sym t)))
        | inr (inr (inl a)) ↦ inl a
        | inr (inr (inr (inl b))) ↦
            (let names : chosen.names ≡ codes "b.md" ∷ [] = append_cancel_left t_place chosen.names (codes "b.md" ∷ []) (sym chosen.below ∙ sym b) in
            absurd (b_fits_not (subst (λ (n : NameList). FitsAny txt (join_with_byte 47 n)) names chosen.fits)))
        | inr (inr (inr (inr none))) ↦ absurd none
      ]

  one_alone : (place : NameList) → IsStrictlySortedBy name_list_cmp (place ∷ [])
  unfolding IsStrictlySortedBy
  one_alone place = (tt, tt)

  -- `a.txt` alone
  pub a_alone : Chosen tree t_place txt (a_place ∷ [])
  a_alone = record {
    in_order = one_alone a_place;
    these = λ place. (
      (λ c. elim (in_from_contains (a_place ∷ []) place c) [
        | inl a ↦ subst (λ (q : NameList). IsChosen tree t_place txt q) a a_chosen
        | inr none ↦ absurd none
      ]),
      (λ chosen. contains_from_in (a_place ∷ []) place (only_a place chosen)),
    );
  }

  abbrev pub t_chosen : (root : List ℕ) → reached tree root true ≡ Some t_place → ListsChosen tree root txt (path_from root (codes "a.txt" ∷ []) ∷ [])
  t_chosen root leads = record {
    top = t_place;
    leads = leads;
    places = a_place ∷ [];
    chosen = a_alone;
    names = (codes "a.txt" ∷ []) ∷ [];
    places_are = refl;
    paths_are = refl;
  }

  -- ---- all that lies below `/t`

  both_in_order : IsStrictlySortedBy name_list_cmp (a_place ∷ b_place ∷ [])
  unfolding IsStrictlySortedBy
  both_in_order = ((refl, tt), (tt, tt))

  below_t : (names place : NameList) → names ≢ [] → IsSome (find name_list_cmp (codes "t" ∷ names) t_nodes) → codes "t" ∷ names ≡ place → IsBelow tree t_place place
  below_t names place some there e = (names, sym e, some, ap is_some (stands place ∙ ap (λ (q : NameList). find name_list_cmp q t_nodes) (sym e)) ∙ there)

  both_below : (place : NameList) → In place (a_place ∷ b_place ∷ []) → IsBelow tree t_place place
  both_below place i = elim i [
    | inl a ↦ below_t (codes "a.txt" ∷ []) place (λ none. cc) refl a
    | inr (inl b) ↦ below_t (codes "b.md" ∷ []) place (λ none. cc) refl b
    | inr (inr none) ↦ absurd none
  ]

  no_more_below : (place : NameList) → IsBelow tree t_place place → In place (a_place ∷ b_place ∷ [])
  no_more_below place (names, below, some, there) = elim (at_key place there) [
    | inl top ↦ absurd (cc (top, below))
    | inr (inl t) ↦ absurd (some (append_cancel_left t_place names [] (sym below ∙ sym t)))
    | inr (inr i) ↦ i
  ]

  pub few_below : (root : List ℕ) → reached tree root true ≡ Some t_place → HasFewerBelow 9 tree root
  few_below root leads = (
    a_place ∷ b_place ∷ [],
    record {
      top = t_place;
      leads = leads;
      are_all = record {
        in_order = both_in_order;
        these = λ place. (
          (λ c. both_below place (in_from_contains (a_place ∷ b_place ∷ []) place c)),
          (λ b. contains_from_in (a_place ∷ b_place ∷ []) place (no_more_below place b)),
        );
      };
    },
    omega arith,
  )
