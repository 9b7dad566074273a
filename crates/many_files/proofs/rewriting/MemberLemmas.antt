-- Members of lists.
use Rattle.std.proofs.Common.{◌≡◌, ◌≢◌, ◌⊎◌, zero, suc, List, [], ◌∷◌, ◌++◌, map, refl, sym, ap, inl, inr, arith}
use Rattle.std.specs.Prelude.{Option, Some, None, Contains}
use Rattle.std.proofs.lemmas.Option.{same_Some}
use Rattle.sd_io.specs.Tree.{NameList}
use Rattle.sd_io.proofs.WayLemmas.{same_or_other}

-- a member, by recursion
abbrev pub In : {X : Type 0} → X → List X → Type 0
In x [] = ⊥
In x (y ∷ ys) = (y ≡ x) ⊎ In x ys

pub in_from_contains : {X : Type 0} (xs : List X) (x : X) → Contains xs x → In x xs
in_from_contains [] x (k, lt, is) = absurd (omega arith)
in_from_contains (y ∷ ys) x (zero, lt, is) = inl is
in_from_contains (y ∷ ys) x (suc k, lt, is) = inr (in_from_contains ys x (k, omega arith, is))

pub contains_from_in : {X : Type 0} (xs : List X) (x : X) → In x xs → Contains xs x
contains_from_in [] x h = absurd h
contains_from_in (y ∷ ys) x (inl e) = (0, omega arith, e)
contains_from_in (y ∷ ys) x (inr h) = let r = contains_from_in ys x h in (suc r.0, omega arith, r.2)

-- a list has none where it is empty
pub none_in : {X : Type 0} (x : X) → Contains [] x → ⊥
none_in x c = in_from_contains [] x c

-- a list has a place or hasn't
in_or_not : (places : List NameList) (place : NameList) → In place places ⊎ (In place places → ⊥)
in_or_not [] place = inr (λ i. i)
in_or_not (first ∷ places) place = elim (same_or_other first place) [
  | inl e ↦ inl (inl e)
  | inr n ↦ elim (in_or_not places place) [ inl i ↦ inl (inr i) | inr m ↦ inr (λ i. elim i [ inl e ↦ n e | inr j ↦ m j ]) ]
]

pub has_or_not : (places : List NameList) (place : NameList) → Contains places place ⊎ (Contains places place → ⊥)
has_or_not places place = elim (in_or_not places place) [
  | inl i ↦ inl (contains_from_in places place i)
  | inr n ↦ inr (λ c. n (in_from_contains places place c))
]

-- an option is this place or isn't
some_or_not : (o : Option NameList) (place : NameList) → (o ≡ Some place) ⊎ (o ≢ Some place)
some_or_not None place = inr (λ e. cc)
some_or_not (Some q) place = elim (same_or_other q place) [ inl e ↦ inl (ap (λ (p : NameList). Some p) e) | inr n ↦ inr (λ e. n (same_Some q place e)) ]

in_options_or_not : (options : List (Option NameList)) (place : NameList) → In (Some place) options ⊎ (In (Some place) options → ⊥)
in_options_or_not [] place = inr (λ i. i)
in_options_or_not (first ∷ options) place = elim (some_or_not first place) [
  | inl e ↦ inl (inl e)
  | inr n ↦ elim (in_options_or_not options place) [ inl i ↦ inl (inr i) | inr m ↦ inr (λ i. elim i [ inl e ↦ n e | inr j ↦ m j ]) ]
]

pub has_option_or_not : (options : List (Option NameList)) (place : NameList) → Contains options (Some place) ⊎ (Contains options (Some place) → ⊥)
has_option_or_not options place = elim (in_options_or_not options place) [
  | inl i ↦ inl (contains_from_in options (Some place) i)
  | inr n ↦ inr (λ c. n (in_from_contains options (Some place) c))
]

-- a member of a mapped list comes from a member
in_mapped : {X Y : Type 0} (f : X → Y) (xs : List X) (y : Y) → In y (map f xs) → (x : X) × In x xs × (f x ≡ y)
in_mapped f [] y i = absurd i
in_mapped f (x ∷ xs) y (inl e) = (x, inl refl, e)
in_mapped f (x ∷ xs) y (inr i) = let (z, there, e) = in_mapped f xs y i in (z, inr there, e)

pub mapped : {X Y : Type 0} (f : X → Y) (xs : List X) (y : Y) → Contains (map f xs) y → (x : X) × Contains xs x × (f x ≡ y)
mapped f xs y c = let (x, i, e) = in_mapped f xs y (in_from_contains (map f xs) y c) in (x, contains_from_in xs x i, e)

in_map : {X Y : Type 0} (f : X → Y) (xs : List X) (x : X) → In x xs → In (f x) (map f xs)
in_map f [] x i = i
in_map f (y ∷ xs) x (inl e) = inl (ap f e)
in_map f (y ∷ xs) x (inr i) = inr (in_map f xs x i)

pub map_has : {X Y : Type 0} (f : X → Y) (xs : List X) (x : X) → Contains xs x → Contains (map f xs) (f x)
map_has f xs x c = contains_from_in (map f xs) (f x) (in_map f xs x (in_from_contains xs x c))

-- where a list with one more is cut: at the last, or before
pub cut_of_more : {X : Type 0} (xs : List X) (x : X) (before after : List X) (y : X) → xs ++ x ∷ [] ≡ before ++ y ∷ after
    → ((before ≡ xs) × (y ≡ x)) ⊎ ((rest : List X) × (xs ≡ before ++ y ∷ rest))
cut_of_more [] x [] after y e = inl (refl, cc)
cut_of_more [] x (b ∷ []) after y e = cc
cut_of_more [] x (b ∷ next ∷ before) after y e = cc
cut_of_more (a ∷ xs) x [] after y e = let same : a ≡ y = cc in inr (xs, ap (λ z. z ∷ xs) same)
cut_of_more (a ∷ xs) x (b ∷ before) after y e =
    let same : a ≡ b = cc in
    let rest : xs ++ x ∷ [] ≡ before ++ y ∷ after = cc in
    elim (cut_of_more xs x before after y rest) [
      | inl (all, last) ↦ inl ((λ i. sym same i ∷ all i), last)
      | inr (more, is) ↦ inr (more, (λ i. same i ∷ is i))
    ]
