-- One list, cut at two of its members.
use Rattle.std.proofs.Common.{◌≡◌, ◌⊎◌, List, [], ◌∷◌, ◌++◌, length, refl, sym, ap, subst, inl, inr, arith}
use Rattle.std.specs.Prelude.{All, Contains}
use Rattle.std.proofs.lemmas.List.{length-append}
use Rattle.std.proofs.lemmas.List.Elements.{All-contains, Contains-append_right}

-- both are one, or one of them comes before the other
pub two_cuts : {X : Type 0} (xs : List X) (x : X) (ys zs : List X) (z : X) (ws : List X) → xs ++ x ∷ ys ≡ zs ++ z ∷ ws
    → ((xs ≡ zs) × (x ≡ z)) ⊎ ((more : List X) × (xs ≡ zs ++ z ∷ more)) ⊎ ((more : List X) × (zs ≡ xs ++ x ∷ more))
two_cuts [] x ys [] z ws e = inl (refl, cc)
two_cuts [] x ys (c ∷ zs) z ws e = let same : x ≡ c = cc in inr (inr (zs, λ i. sym same i ∷ zs))
two_cuts (a ∷ xs) x ys [] z ws e = let same : a ≡ z = cc in inr (inl (xs, λ i. same i ∷ xs))
two_cuts (a ∷ xs) x ys (c ∷ zs) z ws e =
    let same : a ≡ c = cc in
    let rest : xs ++ x ∷ ys ≡ zs ++ z ∷ ws = cc in
    elim (two_cuts xs x ys zs z ws rest) [
      | inl (all, here) ↦ inl ((λ i. same i ∷ all i), here)
      | inr (inl (more, is)) ↦ inr (inl (more, λ i. same i ∷ is i))
      | inr (inr (more, is)) ↦ inr (inr (more, λ i. sym same i ∷ is i))
    ]

-- a list with one more is cut at the last, or before
pub last_or_before : {X : Type 0} (xs : List X) (x : X) (zs : List X) (z : X) (ws : List X) → xs ++ x ∷ [] ≡ zs ++ z ∷ ws
    → ((xs ≡ zs) × (x ≡ z)) ⊎ ((more : List X) × (xs ≡ zs ++ z ∷ more))
last_or_before xs x zs z ws e = elim (two_cuts xs x [] zs z ws e) [
  | inl last ↦ inl last
  | inr (inl before) ↦ inr before
  | inr (inr (more, is)) ↦
      let all : length (xs ++ x ∷ []) ≡ length (zs ++ z ∷ ws) = ap length e in
      let front : length zs ≡ length (xs ++ x ∷ more) = ap length is in
      absurd (omega (arith, all, front, length-append xs (x ∷ []), length-append zs (z ∷ ws), length-append xs (x ∷ more)))
]

-- where a list is cut there is a member
pub has_cut : {X : Type 0} (list xs : List X) (x : X) (ys : List X) → list ≡ xs ++ x ∷ ys → Contains list x
has_cut list xs x ys cut = subst (λ l. Contains l x) (sym cut) (Contains-append_right xs (x ∷ ys) x (0, omega arith, refl))

-- what holds of all holds of it
pub at_cut : {X : Type 0} (P : X → Type 0) (list xs : List X) (x : X) (ys : List X) → All P list → list ≡ xs ++ x ∷ ys → P x
at_cut P list xs x ys all cut = All-contains P list x all (has_cut list xs x ys cut)
