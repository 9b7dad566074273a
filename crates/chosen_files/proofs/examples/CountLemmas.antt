-- What lies below a directory of the examples' tree.
use Rattle.std.proofs.Common.{◌≡◌, ◌≢◌, true, List, [], ◌∷◌, Some, None, refl, sym, ◌∙◌, ap, inl, inr, arith}
use Rattle.std.specs.Prelude.{codes, IsSome, is_some}
use Rattle.std.specs.List.Sorted.{IsStrictlySortedBy}
use Rattle.std.specs.FinMap.{find}
use Rattle.std.proofs.lemmas.List.Elements.{All-from_recursion}
use Rattle.sd_io.specs.Tree.{NameList, directory, name_list_cmp, is_directory_at, is_directory_node}
use Rattle.sd_io.specs.Paths.{parts_of, reached}
use Rattle.walk_rest.specs.Examples.{tree_with}
use Rattle.chosen_files.specs.Below.{IsBelow, HasFewerBelow, HasManyBelow}
use Rattle.chosen_files.specs.Examples.{d_nodes}
use Rattle.chosen_files.proofs.laws.PlaceLemmas.{In, in_from_contains, contains_from_in, all_from_in}
use Rattle.chosen_files.proofs.examples.StandsLemmas.{node_is, stands_at_key, leads_to, leads_nowhere}

abbrev d_place : NameList
d_place = codes "d" ∷ []

top_there : is_directory_at (tree_with d_nodes) [] ≡ true
top_there = ap is_directory_node (node_is d_nodes [])

pub to_d : reached (tree_with d_nodes) (codes "/d") true ≡ Some d_place
unfolding parts_of
to_d = leads_to (tree_with d_nodes) top_there (codes "/d") (codes "d") refl refl refl directory 0 2 (node_is d_nodes d_place) (λ target e. cc)

pub to_none : reached (tree_with d_nodes) (codes "/n") true ≡ None
unfolding parts_of
to_none = leads_nowhere (tree_with d_nodes) top_there (codes "/n") (codes "n") refl refl refl (node_is d_nodes (codes "n" ∷ []))

-- what lies below `/d`
abbrev below_d : List NameList
below_d =
    (codes "d" ∷ codes "a" ∷ [])
    ∷ (codes "d" ∷ codes "e" ∷ [])
    ∷ (codes "d" ∷ codes "l" ∷ [])
    ∷ (codes "d" ∷ codes "s" ∷ [])
    ∷ (codes "d" ∷ codes "s" ∷ codes "b" ∷ [])
    ∷ []

in_order : IsStrictlySortedBy name_list_cmp below_d
unfolding IsStrictlySortedBy
in_order = ((refl, (refl, (refl, (refl, tt)))), ((refl, (refl, (refl, tt))), ((refl, (refl, tt)), ((refl, tt), (tt, tt)))))

lies_below : (place : NameList) → In place below_d → IsBelow (tree_with d_nodes) d_place place
lies_below place i = elim i [
  | inl e ↦ one (codes "a" ∷ []) (λ none. cc) refl e
  | inr (inl e) ↦ one (codes "e" ∷ []) (λ none. cc) refl e
  | inr (inr (inl e)) ↦ one (codes "l" ∷ []) (λ none. cc) refl e
  | inr (inr (inr (inl e))) ↦ one (codes "s" ∷ []) (λ none. cc) refl e
  | inr (inr (inr (inr (inl e)))) ↦ one (codes "s" ∷ codes "b" ∷ []) (λ none. cc) refl e
  | inr (inr (inr (inr (inr none)))) ↦ absurd none
]
  where
    one : (names : NameList) → names ≢ [] → IsSome (find name_list_cmp (codes "d" ∷ names) d_nodes) → codes "d" ∷ names ≡ place
        → IsBelow (tree_with d_nodes) d_place place
    one names some stands e = (names, sym e, some, ap is_some (node_is d_nodes place ∙ ap (λ (q : NameList). find name_list_cmp q d_nodes) (sym e)) ∙ stands)

all_there : (place : NameList) → IsBelow (tree_with d_nodes) d_place place → In place below_d
all_there place (names, below, some, stands) = elim (stands_at_key d_nodes place stands) [
  | inl top ↦ cc (top, below)
  | inr (inl d) ↦ absurd (some (cc (d, below)))
  | inr (inr i) ↦ i
]

pub fewer_than_six : HasFewerBelow 6 (tree_with d_nodes) (codes "/d")
fewer_than_six = (
  below_d,
  record {
    top = d_place;
    leads = to_d;
    are_all = record {
      in_order = in_order;
      these = λ place. ((λ c. lies_below place (in_from_contains below_d place c)), λ b. contains_from_in below_d place (all_there place b));
    };
  },
  omega arith,
)

pub five_or_more : HasManyBelow 5 (tree_with d_nodes) (codes "/d")
five_or_more = (
  below_d,
  record {
    top = d_place;
    leads = to_d;
    in_order = in_order;
    each = All-from_recursion (IsBelow (tree_with d_nodes) d_place) below_d (all_from_in (IsBelow (tree_with d_nodes) d_place) below_d lies_below);
  },
  omega arith,
)
