-- Lists of places in order.
use Rattle.std.proofs.Common.{◌≡◌, zero, suc, ◌⊎◌, inl, inr, List, [], ◌∷◌, ◌++◌, Contains, arith, refl, subst, ap, ◌∙◌, Ordering, Less}
use Rattle.std.specs.List.{AllByRecursion}
use Rattle.std.specs.List.Sorted.{IsStrictlySortedBy}
use Rattle.std.specs.Ordering.{ordering_then}
use Rattle.std.specs.Cmp.{IsTotalOrder, tied_itself, nat_cmp_total}
use Rattle.std.specs.Cmp.Lexicographic.{lists_total}
use Rattle.sd_io.specs.Tree.{Name, NameList, name_cmp, name_list_cmp}

-- ---- membership by recursion

abbrev pub In : {X : Type 0} → X → List X → Type 0
In x [] = ⊥
In x (y ∷ ys) = (y ≡ x) ⊎ In x ys

pub in_from_contains : {X : Type 0} (xs : List X) (x : X) → Contains xs x → In x xs
in_from_contains [] x (k, lt, is) = absurd (omega arith)
in_from_contains (y ∷ ys) x (zero, lt, is) = inl is
in_from_contains (y ∷ ys) x (suc k, lt, is) = inr (in_from_contains ys x (k, omega arith, is))

pub contains_from_in : {X : Type 0} (xs : List X) (x : X) → In x xs → Contains xs x
contains_from_in [] x h = absurd h
contains_from_in (y ∷ ys) x (inl e) = (0, omega arith, e)
contains_from_in (y ∷ ys) x (inr h) = let r = contains_from_in ys x h in (suc r.0, omega arith, r.2)

pub in_left : {X : Type 0} (xs ys : List X) (x : X) → In x xs → In x (xs ++ ys)
in_left [] ys x h = absurd h
in_left (a ∷ xs) ys x (inl e) = inl e
in_left (a ∷ xs) ys x (inr h) = inr (in_left xs ys x h)

pub in_right : {X : Type 0} (xs ys : List X) (x : X) → In x ys → In x (xs ++ ys)
in_right [] ys x h = h
in_right (a ∷ xs) ys x h = inr (in_right xs ys x h)

pub in_append : {X : Type 0} (xs ys : List X) (x : X) → In x (xs ++ ys) → In x xs ⊎ In x ys
in_append [] ys x h = inr h
in_append (a ∷ xs) ys x (inl e) = inl (inl e)
in_append (a ∷ xs) ys x (inr h) = elim (in_append xs ys x h) [ inl l ↦ inl (inr l) | inr r ↦ inr r ]

pub all_from_in : {X : Type 0} (P : X → Type 0) (xs : List X) → ((x : X) → In x xs → P x) → AllByRecursion P xs
all_from_in P [] f = tt
all_from_in P (x ∷ xs) f = (f x (inl refl), all_from_in P xs (λ y h. f y (inr h)))

pub in_from_all : {X : Type 0} (P : X → Type 0) (xs : List X) → AllByRecursion P xs → (x : X) → In x xs → P x
in_from_all P [] all x h = absurd h
in_from_all P (y ∷ ys) all x (inl e) = subst P e all.0
in_from_all P (y ∷ ys) all x (inr h) = in_from_all P ys all.1 x h

-- two lists in order, the one before the other
pub sorted_append : {X : Type 0} (c : X → X → Ordering) (xs ys : List X) → IsStrictlySortedBy c xs → IsStrictlySortedBy c ys → ((x y : X) → In x xs → In y ys → c x y ≡ Less) → IsStrictlySortedBy c (xs ++ ys)
unfolding IsStrictlySortedBy
sorted_append c [] ys h k apart = k
sorted_append c (x ∷ xs) ys h k apart = (
  all_from_in (λ y. c x y ≡ Less) (xs ++ ys) (λ y i. elim (in_append xs ys y i) [ inl l ↦ in_from_all (λ z. c x z ≡ Less) xs h.0 y l | inr r ↦ apart x y (inl refl) r ]),
  sorted_append c xs ys h.1 k (λ a b i j. apart a b (inr i) j),
)

-- ---- the orders

pub name_total : IsTotalOrder name_cmp
name_total = lists_total nat_cmp_total

pub place_total : IsTotalOrder name_list_cmp
place_total = lists_total name_total

-- what stands below one name comes before what stands below a later one
pub child_less : (top : NameList) (m n : Name) (s t : NameList) → name_cmp m n ≡ Less → name_list_cmp (top ++ (m ∷ s)) (top ++ (n ∷ t)) ≡ Less
child_less [] m n s t h = ap (λ (r : Ordering). ordering_then r (name_list_cmp s t)) h
child_less (d ∷ top) m n s t h = ap (λ (r : Ordering). ordering_then r (name_list_cmp (top ++ (m ∷ s)) (top ++ (n ∷ t)))) (tied_itself name_total d) ∙ child_less top m n s t h

-- a place comes before what is below it
pub below_later : (top : NameList) (n : Name) (s : NameList) → name_list_cmp top (top ++ (n ∷ s)) ≡ Less
below_later [] n s = refl
below_later (d ∷ top) n s = ap (λ (r : Ordering). ordering_then r (name_list_cmp top (top ++ (n ∷ s)))) (tied_itself name_total d) ∙ below_later top n s
