-- Ranges of the kit, ranges of trees, and sets.
use Rattle.std.proofs.Common.{All, lt_of_le_of_lt, ◌≡◌, ◌↔◌, ◌⊎◌, inl, inr, ⊎_elim, ℕ, suc, ◌+◌, ◌<◌, ◌≤◌, Bool, true, false, nat_le, nat_lt, ◌&&◌, ◌||◌, List, [], ◌∷◌, length, drop, get_or, drop-cons, add-one, IsTrue, refl, sym, ap, ◌∙◌, subst, true≢false, leb-true, le-leb, arith}
use Rattle.std.proofs.lemmas.Bool.{and_parts, and_from, or_cases, or_left, or_right}
use Rattle.std.proofs.lemmas.Bool.Decides.{nat_tests}
use Rattle.std.specs.Int.{is_in_range}
use Rattle.std.specs.Char.{IsScalar}
use Rattle.std.proofs.Math.ListN.{drop_of_length-le}
use Rattle.regex_class.specs.Ranges.{in_ranges, in_range}
use Rattle.hir_tree.specs.Ranges.{Holds, IsWithin, AreCharRanges, AreByteRanges}
use Rattle.hir_tree.specs.Runs.{in_set}
use Rattle.hir_tree.specs.Tree.{class_chars, class_bytes}
use Rattle.pattern_syntax.specs.Sets.{Set, is_scalar}
use Rattle.pattern_syntax.specs.SetTree.{SetTree, chars, bytes, with_sets}

-- two sets with the same members are one
pub same_set : (s t : Set) → ((c : ℕ) → s c ≡ t c) → s ≡ t
same_set s t h = λ i. λ c. h c i

pub held : (ranges : List (ℕ × ℕ)) (c : ℕ) → Holds ranges c → in_set ranges c ≡ true
held [] c h = absurd h
held (r ∷ rest) c (inl within) = or_left (is_in_range r.0 r.1 c) (in_set rest c) (and_from (nat_le r.0 c) (nat_le c r.1) (le-leb r.0 c within.0) (le-leb c r.1 within.1))
held (r ∷ rest) c (inr later) = or_right (is_in_range r.0 r.1 c) (in_set rest c) (held rest c later)

pub holds : (ranges : List (ℕ × ℕ)) (c : ℕ) → in_set ranges c ≡ true → Holds ranges c
holds [] c e = absurd (true≢false (sym e))
holds (r ∷ rest) c e =
    ⊎_elim
    (λ within. let parts = and_parts (nat_le r.0 c) (nat_le c r.1) within in inl (leb-true r.0 c parts.0, leb-true c r.1 parts.1))
    (λ later. inr (holds rest c later))
    (or_cases (is_in_range r.0 r.1 c) (in_set rest c) e)

-- tests that pass together are equal
pub same_test : (a b : Bool) → (a ≡ true → b ≡ true) → (b ≡ true → a ≡ true) → a ≡ b
same_test true b f g = sym (f refl)
same_test false true f g = g refl
same_test false false f g = refl

-- one range more was looked at
drop_next : (ranges : List (ℕ × ℕ)) (i : ℕ) (d : ℕ × ℕ) → i < length ranges → drop i ranges ≡ get_or ranges i d ∷ drop (i + 1) ranges
drop_next ranges i d within = rw add-one (drop-cons ranges i d within)

within_range : (r : ℕ × ℕ) (c : ℕ) → IsWithin r c → in_range r c ≡ true
unfolding in_range
within_range r c w = and_from (nat_le r.0 c) (nat_le c r.1) (le-leb r.0 c w.0) (le-leb c r.1 w.1)

range_within : (r : ℕ × ℕ) (c : ℕ) → in_range r c ≡ true → IsWithin r c
unfolding in_range
range_within r c e = let parts = and_parts (nat_le r.0 c) (nat_le c r.1) e in (leb-true r.0 c parts.0, leb-true c r.1 parts.1)

in_next : (r : ℕ × ℕ) (rest : List (ℕ × ℕ)) (c : ℕ) → in_ranges (r ∷ rest) c ≡ (in_range r c || in_ranges rest c)
unfolding in_ranges
in_next r rest c = refl

pub in_none : (c : ℕ) → in_ranges [] c ≡ false
unfolding in_ranges
in_none c = refl

-- of the numbers that count, a list holds those that are in the ranges
abbrev pub HoldsThose : (ℕ → Type 0) → List (ℕ × ℕ) → List (ℕ × ℕ) → Type 0
HoldsThose Counts list ranges = (c : ℕ) → Counts c → Holds list c ↔ IsTrue (in_ranges ranges c)

-- what is in the list so far, and what is left of the ranges, are all of those
abbrev pub AreShared : (ℕ → Type 0) → List (ℕ × ℕ) → List (ℕ × ℕ) → ℕ → Type 0
AreShared Counts done ranges i = (c : ℕ) → Counts c → (Holds done c ⊎ IsTrue (in_ranges (drop i ranges) c)) ↔ IsTrue (in_ranges ranges c)

pub shared_next : (Counts : ℕ → Type 0) (old new ranges : List (ℕ × ℕ)) (i : ℕ) (r d : ℕ × ℕ) → i < length ranges → r ≡ get_or ranges i d
    → ((c : ℕ) → Counts c → Holds new c ↔ (Holds old c ⊎ IsWithin r c)) → AreShared Counts old ranges i → AreShared Counts new ranges (i + 1)
shared_next Counts old new ranges i r d within here added shared c counts =
    let cut : drop i ranges ≡ r ∷ drop (i + 1) ranges = drop_next ranges i d within ∙ ap (λ z. z ∷ drop (i + 1) ranges) (sym here) in
    let split : in_ranges (drop i ranges) c ≡ (in_range r c || in_ranges (drop (i + 1) ranges) c) = ap (λ rs. in_ranges rs c) cut ∙ in_next r (drop (i + 1) ranges) c in
    let before = shared c counts in
    let add = added c counts in (
      (λ h. ⊎_elim
          (λ n. ⊎_elim
          (λ o. before.0 (inl o))
          (λ w. before.0 (inr (split ∙ or_left (in_range r c) (in_ranges (drop (i + 1) ranges) c) (within_range r c w))))
          (add.0 n))
          (λ rest. before.0 (inr (split ∙ or_right (in_range r c) (in_ranges (drop (i + 1) ranges) c) rest))) h),
      (λ e. ⊎_elim
          (λ o. inl (add.1 (inl o)))
          (λ rest. ⊎_elim (λ w. inl (add.1 (inr (range_within r c w)))) (λ more. inr more) (or_cases (in_range r c) (in_ranges (drop (i + 1) ranges) c) (sym split ∙ rest)))
          (before.1 e)),
    )

pub shared_start : (Counts : ℕ → Type 0) (ranges : List (ℕ × ℕ)) → AreShared Counts [] ranges 0
shared_start Counts ranges c counts = ((λ h. ⊎_elim (λ n. absurd n) (λ rest. rest) h), (λ e. inr e))

-- all were looked at
pub shared_end : (Counts : ℕ → Type 0) (done ranges items : List (ℕ × ℕ)) (i : ℕ) → length ranges ≤ i → ranges ≡ items → AreShared Counts done ranges i
    → HoldsThose Counts done items
shared_end Counts done ranges items i past same shared c counts =
    let left : in_ranges (drop i ranges) c ≡ false = ap (λ rs. in_ranges rs c) (drop_of_length-le ranges past) ∙ in_none c in
    let now = shared c counts in (
      (λ h. subst (λ rs. in_ranges rs c ≡ true) same (now.0 (inl h))),
      (λ e. ⊎_elim (λ h. h) (λ rest. absurd (true≢false (sym rest ∙ left))) (now.1 (subst (λ rs. in_ranges rs c ≡ true) (sym same) e))),
    )

scalar_is : (c : ℕ) → is_scalar c ≡ true → IsScalar c
scalar_is c e = grind (arith, nat_tests)

is-scalar : (c : ℕ) → IsScalar c → is_scalar c ≡ true
is-scalar c e = grind (arith, nat_tests)

byte_is : (c : ℕ) → nat_lt c 256 ≡ true → c < 256
byte_is c e = grind (arith, nat_tests)

is-byte : (c : ℕ) → c < 256 → nat_lt c 256 ≡ true
is-byte c e = grind (arith, nat_tests)

tests : (list ranges : List (ℕ × ℕ)) (c : ℕ) (b : Bool) → (b ≡ true → Holds list c ↔ IsTrue (in_ranges ranges c))
    → (b && in_set list c) ≡ (b && in_ranges ranges c)
tests list ranges c false same = refl
tests list ranges c true same =
    same_test (in_set list c) (in_ranges ranges c) (λ h. (same refl).0 (holds list c h)) (λ h. held list c ((same refl).1 h))

-- the tree of a list that holds what the ranges of a set do
pub chars_are : (list ranges : List (ℕ × ℕ)) → HoldsThose IsScalar list ranges
    → with_sets (class_chars list) ≡ chars (λ c. is_scalar c && in_ranges ranges c)
chars_are list ranges same = ap chars (same_set _ _ (λ c. tests list ranges c (is_scalar c) (λ e. same c (scalar_is c e))))

pub bytes_are : (list ranges : List (ℕ × ℕ)) → HoldsThose (λ b. b < 256) list ranges
    → with_sets (class_bytes list) ≡ bytes (λ b. nat_lt b 256 && in_ranges ranges b)
bytes_are list ranges same = ap bytes (same_set _ _ (λ b. tests list ranges b (nat_lt b 256) (λ e. same b (byte_is b e))))

set_in : SetTree → Set
set_in (chars s) = s
set_in (bytes s) = s
set_in _ = λ c. false

char_held : (xs ys : List (ℕ × ℕ)) → with_sets (class_chars xs) ≡ with_sets (class_chars ys) → (c : ℕ) → IsScalar c → Holds xs c → Holds ys c
unfolding set_in
char_held xs ys e c scalar h =
    let both : (is_scalar c && in_set xs c) ≡ (is_scalar c && in_set ys c) = ap (λ t. set_in t c) e in
    holds ys c (and_parts (is_scalar c) (in_set ys c) (sym both ∙ and_from (is_scalar c) (in_set xs c) (is-scalar c scalar) (held xs c h))).1

-- the law of ranges, for characters
abbrev pub CharsHaveOneList : Type 0
CharsHaveOneList = (xs ys : List (ℕ × ℕ)) → AreCharRanges xs → AreCharRanges ys → ((c : ℕ) → IsScalar c → Holds xs c ↔ Holds ys c) → xs ≡ ys

pub one_list_of_chars : CharsHaveOneList → (xs ys : List (ℕ × ℕ)) → AreCharRanges xs → AreCharRanges ys
    → with_sets (class_chars xs) ≡ with_sets (class_chars ys) → xs ≡ ys
one_list_of_chars law xs ys f g e = law xs ys f g (λ c scalar. (char_held xs ys e c scalar, char_held ys xs (sym e) c scalar))

byte_held : (xs ys : List (ℕ × ℕ)) → with_sets (class_bytes xs) ≡ with_sets (class_bytes ys) → (b : ℕ) → b < 256 → Holds xs b → Holds ys b
unfolding set_in
byte_held xs ys e b byte h =
    let both : (nat_lt b 256 && in_set xs b) ≡ (nat_lt b 256 && in_set ys b) = ap (λ t. set_in t b) e in
    holds ys b (and_parts (nat_lt b 256) (in_set ys b) (sym both ∙ and_from (nat_lt b 256) (in_set xs b) (is-byte b byte) (held xs b h))).1

within_bytes : (xs : List (ℕ × ℕ)) → All (λ range. range.1 < 256) xs → (b : ℕ) → Holds xs b → b < 256
within_bytes [] below b h = absurd h
within_bytes (r ∷ rest) below b (inl within) = lt_of_le_of_lt within.1 (below 0 r (omega arith))
within_bytes (r ∷ rest) below b (inr later) = within_bytes rest (λ k d h. below (suc k) d (omega arith)) b later

-- the law of ranges, for bytes
abbrev pub BytesHaveOneList : Type 0
BytesHaveOneList = (xs ys : List (ℕ × ℕ)) → AreByteRanges xs → AreByteRanges ys → ((b : ℕ) → Holds xs b ↔ Holds ys b) → xs ≡ ys

pub one_list_of_bytes : BytesHaveOneList → (xs ys : List (ℕ × ℕ)) → AreByteRanges xs → AreByteRanges ys
    → with_sets (class_bytes xs) ≡ with_sets (class_bytes ys) → xs ≡ ys
one_list_of_bytes law xs ys f g e =
    law xs ys f g (λ b. ((λ h. byte_held xs ys e b (within_bytes xs f.1 b h) h), (λ h. byte_held ys xs (sym e) b (within_bytes ys g.1 b h) h)))
