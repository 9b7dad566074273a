-- A stable sort is one, and a list without some elements is sorted as before.
use Rattle.std.proofs.Common.{◌≡◌, ◌+◌, ◌<◌, ◌≤◌, ℕ, zero, suc, Bool, true, false, cond, List, [], ◌∷◌, length, get_or, refl, sym, ◌∙◌, ap, subst, arith}
use Rattle.std.specs.Prelude.{not, ◌&&◌}
use Rattle.std.specs.List.{filter}
use Rattle.std.specs.List.Sorted.{IsSortedBy, IsStableBy, ties}
use Rattle.std.specs.Cmp.{IsStrictWeakOrder, IsTotalOrder}
use Rattle.std.specs.Ordering.{is_lt}
use Rattle.std.specs.declared.cmp.Ordering.{Ordering}
use Rattle.std.proofs.lemmas.List.Sorted.{sorted_far, ranks_by}
use Rattle.std.proofs.lemmas.Bool.{false≢true, and_parts}
use Rattle.walk_rest.specs.Plan.{insert, sorted}
use Rattle.walk_rest.specs.Sorting.{IsSublist, nothing, skipped, taken}

-- the test of an order
abbrev pub less : {X : Type 0} → (X → X → Ordering) → X → X → Bool
less compare x y = is_lt (compare x y)

pub less_weak : {X : Type 0} (compare : X → X → Ordering) → IsTotalOrder compare → IsStrictWeakOrder (less compare)
less_weak {X} compare o = ranks_by o (λ (x : X). x)

-- no element is less than x
abbrev pub NoneBelow : {X : Type 0} → (X → X → Bool) → X → List X → Type 0
NoneBelow lt x [] = Unit {0}
NoneBelow lt x (y ∷ ys) = (lt y x ≡ false) × NoneBelow lt x ys

-- no element is less than one before it
abbrev pub IsUp : {X : Type 0} → (X → X → Bool) → List X → Type 0
IsUp lt [] = Unit {0}
IsUp lt (x ∷ xs) = NoneBelow lt x xs × IsUp lt xs

-- `insert` by a test
abbrev put : {X : Type 0} → (X → X → Bool) → X → List X → List X
put lt x [] = x ∷ []
put lt x (y ∷ ys) = cond (lt y x) (y ∷ put lt x ys) (x ∷ y ∷ ys)

put_is : {X : Type 0} (compare : X → X → Ordering) (x : X) (ys : List X) → insert compare x ys ≡ put (less compare) x ys
put_is compare x [] = refl
put_is compare x (y ∷ ys) = ap (λ r. cond (is_lt (compare y x)) (y ∷ r) (x ∷ y ∷ ys)) (put_is compare x ys)

none_below_on : {X : Type 0} (lt : X → X → Bool) → IsStrictWeakOrder lt → (x y : X) (ys : List X) → lt y x ≡ false → NoneBelow lt y ys → NoneBelow lt x ys
none_below_on lt o x y [] e h = tt
none_below_on lt o x y (z ∷ ys) e h = (o.chain z y x h.0 e, none_below_on lt o x y ys e h.1)

put_none_below : {X : Type 0} (lt : X → X → Bool) (z x : X) (ys : List X) → lt x z ≡ false → NoneBelow lt z ys → NoneBelow lt z (put lt x ys)
put_none_below lt z x [] e h = (e, tt)
put_none_below lt z x (y ∷ ys) e h = by (put_none_below lt z x ys e h.1) (lt y x)
  where
    by : NoneBelow lt z (put lt x ys) → (b : Bool) → NoneBelow lt z (cond b (y ∷ put lt x ys) (x ∷ y ∷ ys))
    by r true = (h.0, r)
    by r false = (e, h)

put_up : {X : Type 0} (lt : X → X → Bool) → IsStrictWeakOrder lt → (x : X) (ys : List X) → IsUp lt ys → IsUp lt (put lt x ys)
put_up lt o x [] h = (tt, tt)
put_up lt o x (y ∷ ys) h = by (put_up lt o x ys h.1) (lt y x) refl
  where
    by : IsUp lt (put lt x ys) → (b : Bool) → lt y x ≡ b → IsUp lt (cond b (y ∷ put lt x ys) (x ∷ y ∷ ys))
    by r true e = (put_none_below lt y x ys (o.one_way y x e) h.0, r)
    by r false e = ((e, none_below_on lt o x y ys e h.0), h)

pub sorted_up : {X : Type 0} (compare : X → X → Ordering) → IsStrictWeakOrder (less compare) → (xs : List X) → IsUp (less compare) (sorted compare xs)
sorted_up compare o [] = tt
sorted_up compare o (x ∷ xs) = subst (IsUp (less compare)) (sym (put_is compare x (sorted compare xs))) (put_up (less compare) o x (sorted compare xs) (sorted_up compare o xs))

-- ---- ties keep their order

clash : {X : Type 0} (lt : X → X → Bool) → IsStrictWeakOrder lt → (x y z : X) → lt z y ≡ true → ties lt x z ≡ true → ties lt x y ≡ true → ⊥
clash lt o x y z e f g =
    let a = and_parts (not (lt x z)) (not (lt z x)) f in
    let b = and_parts (not (lt x y)) (not (lt y x)) g in
    let zx : lt z x ≡ false = of_not (lt z x) a.1 in
    let xy : lt x y ≡ false = of_not (lt x y) b.0 in
    false≢true (sym (o.chain z x y zx xy) ∙ e)
  where
    of_not : (b : Bool) → not b ≡ true → b ≡ false
    of_not true h = absurd (false≢true h)
    of_not false h = refl

filter_put : {X : Type 0} (lt : X → X → Bool) → IsStrictWeakOrder lt → (x y : X) (zs : List X) → filter (ties lt x) (put lt y zs) ≡ filter (ties lt x) (y ∷ zs)
filter_put lt o x y [] = refl
filter_put {X} lt o x y (z ∷ zs) = by (filter_put lt o x y zs) (lt z y) refl
  where
    past : (p q : Bool) → (p ≡ true → q ≡ true → ⊥) → (r s : List X) → r ≡ cond q (y ∷ s) s → cond p (z ∷ r) r ≡ cond q (y ∷ cond p (z ∷ s) s) (cond p (z ∷ s) s)
    past true true h r s e = absurd (h refl refl)
    past true false h r s e = ap (λ t. z ∷ t) e
    past false true h r s e = e
    past false false h r s e = e

    by : filter (ties lt x) (put lt y zs) ≡ filter (ties lt x) (y ∷ zs) → (b : Bool) → lt z y ≡ b → filter (ties lt x) (cond b (z ∷ put lt y zs) (y ∷ z ∷ zs)) ≡ filter (ties lt x) (y ∷ z ∷ zs)
    by r true e = past (ties lt x z) (ties lt x y) (λ f g. clash lt o x y z e f g) (filter (ties lt x) (put lt y zs)) (filter (ties lt x) zs) r
    by r false e = refl

pub sorted_stable : {X : Type 0} (compare : X → X → Ordering) → IsStrictWeakOrder (less compare) → (x : X) (ys : List X) → filter (ties (less compare) x) (sorted compare ys) ≡ filter (ties (less compare) x) ys
sorted_stable compare o x [] = refl
sorted_stable {X} compare o x (y ∷ ys) =
    ap (filter (ties (less compare) x)) (put_is compare y (sorted compare ys))
    ∙ (filter_put (less compare) o x y (sorted compare ys) ∙ ap (λ (r : List X). cond (ties (less compare) x y) (y ∷ r) r) (sorted_stable compare o x ys))

-- ---- two lists that rise, with the same ties

ties_self : {X : Type 0} (lt : X → X → Bool) → IsStrictWeakOrder lt → (x : X) → lt x x ≡ false
ties_self lt o x = by (lt x x) refl
  where
    by : (b : Bool) → lt x x ≡ b → b ≡ false
    by true e = absurd (false≢true (sym (o.one_way x x e) ∙ e))
    by false e = refl

-- nothing that ties with x is there, as all is above it
none_tied : {X : Type 0} (lt : X → X → Bool) → IsStrictWeakOrder lt → (x y : X) (ys : List X) → lt x y ≡ true → NoneBelow lt y ys → filter (ties lt x) (y ∷ ys) ≡ []
none_tied {X} lt o x y ys e h = here y ys e (all ys h)
  where
    here : (z : X) (zs : List X) → lt x z ≡ true → filter (ties lt x) zs ≡ [] → filter (ties lt x) (z ∷ zs) ≡ []
    here z zs f g = (λ i. cond (not (f i) && not (lt z x)) (z ∷ filter (ties lt x) zs) (filter (ties lt x) zs)) ∙ g

    above : (z : X) → lt z y ≡ false → lt x z ≡ true
    above z f = by (lt x z) refl
      where
        by : (b : Bool) → lt x z ≡ b → b ≡ true
        by true g = refl
        by false g = absurd (false≢true (sym (o.chain x z y g f) ∙ e))

    all : (zs : List X) → NoneBelow lt y zs → filter (ties lt x) zs ≡ []
    all [] k = refl
    all (z ∷ zs) k = here z zs (above z k.0) (all zs k.1)

filter_first : {X : Type 0} (lt : X → X → Bool) → IsStrictWeakOrder lt → (x y : X) (ys : List X) → lt x y ≡ false → lt y x ≡ false → filter (ties lt x) (y ∷ ys) ≡ y ∷ filter (ties lt x) ys
filter_first lt o x y ys e f = λ i. cond (not (e i) && not (f i)) (y ∷ filter (ties lt x) ys) (filter (ties lt x) ys)

abbrev SameTies : {X : Type 0} → (X → X → Bool) → List X → List X → Type 0
SameTies {X} lt xs ys = (x : X) → filter (ties lt x) xs ≡ filter (ties lt x) ys

same_tails : {X : Type 0} (lt : X → X → Bool) (y : X) (ys zs : List X) → SameTies lt (y ∷ ys) (y ∷ zs) → SameTies lt ys zs
same_tails {X} lt y ys zs h x = by (ties lt x y) (h x)
  where
    by : (b : Bool) → cond b (y ∷ filter (ties lt x) ys) (filter (ties lt x) ys) ≡ cond b (y ∷ filter (ties lt x) zs) (filter (ties lt x) zs) → filter (ties lt x) ys ≡ filter (ties lt x) zs
    by true e = cc
    by false e = e

pub one_rise : {X : Type 0} (lt : X → X → Bool) → IsStrictWeakOrder lt → (ys zs : List X) → IsUp lt ys → IsUp lt zs → SameTies lt ys zs → ys ≡ zs
one_rise lt o [] [] u v h = refl
one_rise lt o [] (z ∷ zs) u v h = let e = h z ∙ filter_first lt o z z zs (ties_self lt o z) (ties_self lt o z) in absurd (cc e)
one_rise lt o (y ∷ ys) [] u v h = let e = sym (h y) ∙ filter_first lt o y y ys (ties_self lt o y) (ties_self lt o y) in absurd (cc e)
one_rise {X} lt o (y ∷ ys) (z ∷ zs) u v h = by (λ s. one_rise lt o ys zs u.1 v.1 s) (lt y z) (lt z y) refl refl
  where
    first_y : filter (ties lt y) (y ∷ ys) ≡ y ∷ filter (ties lt y) ys
    first_y = filter_first lt o y y ys (ties_self lt o y) (ties_self lt o y)

    first_z : filter (ties lt z) (z ∷ zs) ≡ z ∷ filter (ties lt z) zs
    first_z = filter_first lt o z z zs (ties_self lt o z) (ties_self lt o z)

    by : (SameTies lt ys zs → ys ≡ zs) → (b c : Bool) → lt y z ≡ b → lt z y ≡ c → y ∷ ys ≡ z ∷ zs
    by r true c e f = let g = sym first_y ∙ (h y ∙ none_tied lt o y z zs e v.0) in absurd (cc g)
    by r false true e f = let g = sym first_z ∙ (sym (h z) ∙ none_tied lt o z y ys f u.0) in absurd (cc g)
    by r false false e f =
        let g : y ∷ filter (ties lt y) ys ≡ z ∷ filter (ties lt y) zs = sym first_y ∙ (h y ∙ filter_first lt o y z zs e f) in
        let same : y ≡ z = cc in
        let tails : ys ≡ zs = r (same_tails lt z ys zs (subst (λ (w : X). SameTies lt (w ∷ ys) (z ∷ zs)) same h)) in
        λ i. same i ∷ tails i

-- ---- from std's words

far_none : {X : Type 0} (lt : X → X → Bool) (x : X) (ys : List X) → ((k : ℕ) (d : X) → k < length ys → lt (get_or ys k d) x ≡ false) → NoneBelow lt x ys
far_none lt x [] h = tt
far_none lt x (y ∷ ys) h = (h 0 y (omega arith), far_none lt x ys (λ k d l. h (suc k) d (omega arith)))

up_from_far : {X : Type 0} (lt : X → X → Bool) (xs : List X) → ((i j : ℕ) (d : X) → i ≤ j → j < length xs → lt (get_or xs j d) (get_or xs i d) ≡ false) → IsUp lt xs
up_from_far lt [] h = tt
up_from_far lt (x ∷ xs) h = (
  far_none lt x xs (λ k d l. h 0 (suc k) d (omega arith) (omega arith)),
  up_from_far lt xs (λ i j d l m. h (suc i) (suc j) d (omega arith) (omega arith)),
)

pub up_of : {X : Type 0} (lt : X → X → Bool) → IsStrictWeakOrder lt → (xs : List X) → IsSortedBy lt xs → IsUp lt xs
up_of lt o xs h = up_from_far lt xs (λ i j d l m. sorted_far lt o xs h i j d l m)

-- and back
pub near_from_up : {X : Type 0} (lt : X → X → Bool) (xs : List X) → IsUp lt xs → (k : ℕ) (d : X) → k + 1 < length xs → lt (get_or xs (k + 1) d) (get_or xs k d) ≡ false
near_from_up lt [] h k d m = absurd (omega (arith, m))
near_from_up lt (x ∷ []) h k d m = absurd (omega (arith, m))
near_from_up lt (x ∷ y ∷ xs) h zero d m = h.0.0
near_from_up lt (x ∷ y ∷ xs) h (suc k) d m = let e : suc k + 1 ≡ suc (k + 1) = omega arith in rw e (near_from_up lt (y ∷ xs) h.1 k d (omega (arith, m)))

-- A stable sort is `sorted`.
pub sorted_is : {X : Type 0} (compare : X → X → Ordering) → IsTotalOrder compare → (xs ys : List X) → IsSortedBy (less compare) ys → IsStableBy (less compare) xs ys → ys ≡ sorted compare xs
sorted_is compare total xs ys up stable =
    let o = less_weak compare total in
    one_rise (less compare) o ys (sorted compare xs) (up_of (less compare) o ys up) (sorted_up compare o xs) (λ x. stable x ∙ sym (sorted_stable compare o x xs))

-- ---- a list without some elements

put_skipped : {X : Type 0} (lt : X → X → Bool) (y : X) (xs ys : List X) → IsSublist xs ys → IsSublist xs (put lt y ys)
put_skipped lt y xs ys nothing = skipped nothing
put_skipped {X} lt y xs ys (skipped {y = z} {xs = us} {ys = zs} h) = by (put_skipped lt y us zs h) (lt z y)
  where
    by : IsSublist us (put lt y zs) → (b : Bool) → IsSublist us (cond b (z ∷ put lt y zs) (y ∷ z ∷ zs))
    by r true = skipped r
    by r false = skipped (skipped h)
put_skipped {X} lt y xs ys (taken {y = z} {xs = us} {ys = zs} h) = by (put_skipped lt y us zs h) (lt z y)
  where
    by : IsSublist us (put lt y zs) → (b : Bool) → IsSublist (z ∷ us) (cond b (z ∷ put lt y zs) (y ∷ z ∷ zs))
    by r true = taken r
    by r false = skipped (taken h)

-- where nothing is less, it goes to the front
put_front : {X : Type 0} (lt : X → X → Bool) (x : X) (ys : List X) → NoneBelow lt x ys → put lt x ys ≡ x ∷ ys
put_front lt x [] h = refl
put_front lt x (y ∷ ys) h = λ i. cond (h.0 i) (y ∷ put lt x ys) (x ∷ y ∷ ys)

none_below_sublist : {X : Type 0} (lt : X → X → Bool) (x : X) (us ys : List X) → IsSublist us ys → NoneBelow lt x ys → NoneBelow lt x us
none_below_sublist lt x us ys nothing h = tt
none_below_sublist lt x us ys (skipped {xs = vs} {ys = zs} s) h = none_below_sublist lt x vs zs s h.1
none_below_sublist lt x us ys (taken {xs = vs} {ys = zs} s) h = (h.0, none_below_sublist lt x vs zs s h.1)

put_taken : {X : Type 0} (lt : X → X → Bool) → IsStrictWeakOrder lt → (x : X) (us ys : List X) → IsUp lt ys → IsSublist us ys → IsSublist (put lt x us) (put lt x ys)
put_taken lt o x us ys up nothing = taken nothing
put_taken {X} lt o x us ys up (skipped {y = z} {xs = vs} {ys = zs} s) = by (put_taken lt o x vs zs up.1 s) (lt z x) refl
  where
    by : IsSublist (put lt x vs) (put lt x zs) → (b : Bool) → lt z x ≡ b → IsSublist (put lt x vs) (cond b (z ∷ put lt x zs) (x ∷ z ∷ zs))
    by r true e = skipped r
    by r false e =
        let front = put_front lt x vs (none_below_sublist lt x vs zs s (none_below_on lt o x z zs e up.0)) in
        subst (λ (w : List X). IsSublist w (x ∷ z ∷ zs)) (sym front) (taken (skipped s))
put_taken {X} lt o x us ys up (taken {y = z} {xs = vs} {ys = zs} s) = by (put_taken lt o x vs zs up.1 s) (lt z x)
  where
    by : IsSublist (put lt x vs) (put lt x zs) → (b : Bool) → IsSublist (cond b (z ∷ put lt x vs) (x ∷ z ∷ vs)) (cond b (z ∷ put lt x zs) (x ∷ z ∷ zs))
    by r true = taken r
    by r false = taken (taken s)

-- Sorting what is left gives what is left of the sorted list.
pub sublist_sorted : {X : Type 0} (compare : X → X → Ordering) → IsTotalOrder compare → (us ys : List X) → IsSublist us ys → IsSublist (sorted compare us) (sorted compare ys)
sublist_sorted compare total us ys nothing = nothing
sublist_sorted {X} compare total us ys (skipped {y = z} {xs = vs} {ys = zs} s) =
    subst (IsSublist (sorted compare vs)) (sym (put_is compare z (sorted compare zs)))
    (put_skipped (less compare) z (sorted compare vs) (sorted compare zs) (sublist_sorted compare total vs zs s))
sublist_sorted {X} compare total us ys (taken {y = z} {xs = vs} {ys = zs} s) =
    let o = less_weak compare total in
    let both = put_taken (less compare) o z (sorted compare vs) (sorted compare zs) (sorted_up compare o zs) (sublist_sorted compare total vs zs s) in
    subst (λ (w : List X). IsSublist w (insert compare z (sorted compare zs))) (sym (put_is compare z (sorted compare vs)))
    (subst (IsSublist (put (less compare) z (sorted compare vs))) (sym (put_is compare z (sorted compare zs))) both)
