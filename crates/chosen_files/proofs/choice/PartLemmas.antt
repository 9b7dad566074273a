-- Parts of lists, in their order.
use Rattle.std.proofs.Common.{◌≡◌, inl, inr, List, [], ◌∷◌, sym, subst, Ordering, Less}
use Rattle.std.specs.List.Sorted.{IsStrictlySortedBy}
use Rattle.walkdir.specs.Gather.{IsPart}
use Rattle.chosen_files.proofs.laws.PlaceLemmas.{In, all_from_in, in_from_all}

-- what is in a part is in the whole
pub in_whole : {X : Type 0} (xs ys : List X) (x : X) → IsPart xs ys → In x xs → In x ys
in_whole {X} xs [] x h i = subst (λ (zs : List X). In x zs) h i
in_whole xs (y ∷ ys) x (inl h) i = inr (in_whole xs ys x h i)
in_whole {X} xs (y ∷ ys) x (inr (rest, e, h)) i = elim (subst (λ (zs : List X). In x zs) e i) [
  | inl same ↦ inl same
  | inr j ↦ inr (in_whole rest ys x h j)
]

-- a part of a list in strict order is in strict order
pub part_sorted : {X : Type 0} (c : X → X → Ordering) (xs ys : List X) → IsPart xs ys → IsStrictlySortedBy c ys → IsStrictlySortedBy c xs
unfolding IsStrictlySortedBy
part_sorted {X} c xs [] h up = subst (λ (zs : List X). IsStrictlySortedBy c zs) (sym h) tt
part_sorted c xs (y ∷ ys) (inl h) up = part_sorted c xs ys h up.1
part_sorted {X} c xs (y ∷ ys) (inr (rest, e, h)) up =
    subst (λ (zs : List X). IsStrictlySortedBy c zs) (sym e)
    (all_from_in (λ z. c y z ≡ Less) rest (λ z i. in_from_all (λ z. c y z ≡ Less) ys up.0 z (in_whole rest ys z h i)), part_sorted c rest ys h up.1)
