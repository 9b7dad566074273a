-- Parts of lists, in their order.
use Rattle.std.proofs.Common.{inl, inr, List, [], ◌∷◌, ◌++◌, refl, sym, ap, subst}
use Rattle.walkdir.specs.Gather.{IsPart}

pub part_whole : {X : Type 0} (xs : List X) → IsPart xs xs
part_whole [] = refl
part_whole (x ∷ xs) = inr (xs, refl, part_whole xs)

pub part_none : {X : Type 0} (ys : List X) → IsPart [] ys
part_none [] = refl
part_none (y ∷ ys) = inl (part_none ys)

pub part_append : {X : Type 0} (xs ys vs ws : List X) → IsPart xs ys → IsPart vs ws → IsPart (xs ++ vs) (ys ++ ws)
part_append {X} xs [] vs ws h k = subst (λ (zs : List X). IsPart (zs ++ vs) ws) (sym h) k
part_append xs (y ∷ ys) vs ws (inl h) k = inl (part_append xs ys vs ws h k)
part_append {X} xs (y ∷ ys) vs ws (inr (rest, e, h)) k = inr (rest ++ vs, ap (λ (zs : List X). zs ++ vs) e, part_append rest ys vs ws h k)

pub part_after : {X : Type 0} (xs ys zs : List X) → IsPart xs zs → IsPart xs (ys ++ zs)
part_after xs ys zs h = part_append [] ys xs zs (part_none ys) h

pub part_of_part : {X : Type 0} (xs ys zs : List X) → IsPart xs ys → IsPart ys zs → IsPart xs zs
part_of_part {X} xs ys [] h k = subst (λ (ws : List X). IsPart xs ws) k h
part_of_part xs ys (z ∷ zs) h (inl k) = inl (part_of_part xs ys zs h k)
part_of_part {X} xs ys (z ∷ zs) h (inr (rest, e, k)) = elim (subst (λ (ws : List X). IsPart xs ws) e h) [
  | inl g ↦ inl (part_of_part xs rest zs g k)
  | inr g ↦ inr (g.0, g.1, part_of_part g.0 rest zs g.2 k)
]
