-- To unite a range with sorted ranges that stand apart.
use Rattle.std.proofs.Common.{◌≡◌, ◌↔◌, ◌⊎◌, ℕ, zero, suc, ◌+◌, ◌<◌, ◌≤◌, min, max, cond, Bool, true, false, nat_lt, All, Result, Ok, Err, OnOk, OnErr, List, [], ◌∷◌, ◌++◌, length, take, drop, get_or, drop-cons, add-one, refl, sym, ap, subst, ◌∙◌, inl, inr, arith}
use Rattle.std.proofs.lemmas.Bool.{cases_lt}
use Rattle.std.proofs.lemmas.Bool.Decides.{nat_tests}
use Rattle.std.specs.List.{prefix_len}
use Rattle.std.proofs.Math.ListN.{drop_of_length-le}
use Rattle.hir_tree.specs.Ranges.{IsWithin, Holds, StartsPast, AreApart, next_byte}

-- the ranges with one more, which takes in those at the front that it meets or touches
pub absorbed : ℕ → ℕ → List (ℕ × ℕ) → List (ℕ × ℕ)
absorbed low high [] = (low, high) ∷ []
absorbed low high (r ∷ rest) =
    cond (nat_lt (high + 1) r.0) ((low, high) ∷ r ∷ rest) (absorbed (min low r.0) (max high r.1) rest)

pub absorbed_none : (low high : ℕ) → absorbed low high [] ≡ (low, high) ∷ []
unfolding absorbed
absorbed_none low high = refl

pub absorbed_gap : (low high : ℕ) (r : ℕ × ℕ) (rest : List (ℕ × ℕ)) → high + 1 < r.0 → absorbed low high (r ∷ rest) ≡ (low, high) ∷ r ∷ rest
unfolding absorbed
absorbed_gap low high r rest gap = grind (arith, nat_tests)

pub absorbed_more : (low high : ℕ) (r : ℕ × ℕ) (rest : List (ℕ × ℕ)) → r.0 ≤ high + 1
    → absorbed low high (r ∷ rest) ≡ absorbed (min low r.0) (max high r.1) rest
unfolding absorbed
absorbed_more low high r rest touches = grind (arith, nat_tests)

-- the ranges with one more, which goes after those that end before it
pub united : ℕ → ℕ → List (ℕ × ℕ) → List (ℕ × ℕ)
united low high [] = (low, high) ∷ []
united low high (r ∷ rest) = cond (nat_lt (r.1 + 1) low) (r ∷ united low high rest) (absorbed low high (r ∷ rest))

united_before : (low high : ℕ) (r : ℕ × ℕ) (rest : List (ℕ × ℕ)) → r.1 + 1 < low → united low high (r ∷ rest) ≡ r ∷ united low high rest
unfolding united
united_before low high r rest gap = grind (arith, nat_tests)

united_here : (low high : ℕ) (r : ℕ × ℕ) (rest : List (ℕ × ℕ)) → low ≤ r.1 + 1 → united low high (r ∷ rest) ≡ absorbed low high (r ∷ rest)
unfolding united
united_here low high r rest touches = grind (arith, nat_tests)

-- whether a range ends before a start, with a number between
abbrev pub ends_before : ℕ → ℕ × ℕ → Bool
ends_before low r = nat_lt (r.1 + 1) low

one_more : (n : ℕ) → 1 + n ≡ suc n
one_more n = omega arith

-- the two parts of what is united
pub united_parts : (low high : ℕ) (xs : List (ℕ × ℕ))
    → united low high xs ≡ take (prefix_len (ends_before low) xs) xs ++ absorbed low high (drop (prefix_len (ends_before low) xs) xs)
unfolding united absorbed
united_parts low high [] = refl
united_parts low high (r ∷ rest) =
    elim (nat_lt (r.1 + 1) low) as (λ b. cond b (r ∷ united low high rest) (absorbed low high (r ∷ rest))
    ≡ take (cond b (1 + prefix_len (ends_before low) rest) 0) (r ∷ rest)
    ++ absorbed low high (drop (cond b (1 + prefix_len (ends_before low) rest) 0) (r ∷ rest))) [
      | true ↦ rw (one_more (prefix_len (ends_before low) rest)) (ap (λ (xs : List (ℕ × ℕ)). r ∷ xs) (united_parts low high rest))
      | false ↦ refl
    ]

-- the first of the ranges ends at a number or later, or just before it
abbrev EndsFrom : ℕ → List (ℕ × ℕ) → Type 0
EndsFrom n [] = Unit {0}
EndsFrom n (r ∷ rest) = n ≤ r.1 + 1

past_less : (m n : ℕ) (xs : List (ℕ × ℕ)) → m ≤ n → StartsPast n xs → StartsPast m xs
past_less m n [] le past = tt
past_less m n (r ∷ rest) le past = omega arith

ends_past : (m n : ℕ) (xs : List (ℕ × ℕ)) → m ≤ n → StartsPast n xs → AreApart next_byte xs → EndsFrom m xs
ends_past m n [] le past apart = tt
ends_past m n (r ∷ rest) le past apart = omega (arith, apart.0)

-- two ranges that meet or touch hold what the range round both holds
joined_within : (a b x y n : ℕ) → a ≤ b → x ≤ y → x ≤ b + 1 → a ≤ y + 1
    → IsWithin (min a x, max b y) n ↔ (IsWithin (a, b) n ⊎ IsWithin (x, y) n)
joined_within a b x y n first second reach back = (
  (λ within. elim (cases_lt b n) [
    | inl above ↦ inr (omega (arith, within.0, within.1), omega (arith, within.1))
    | inr upto ↦ elim (cases_lt n a) [
      | inl under ↦ inr (omega (arith, within.0), omega (arith, within.0))
      | inr from ↦ inl (from, upto)
    ]
  ]),
  (λ either. elim either [
    | inl w ↦ (omega (arith, w.0), omega (arith, w.1))
    | inr w ↦ (omega (arith, w.0), omega (arith, w.1))
  ]),
)

pub absorbed_holds : (low high : ℕ) (xs : List (ℕ × ℕ)) → low ≤ high → EndsFrom low xs → AreApart next_byte xs
    → (n : ℕ) → Holds (absorbed low high xs) n ↔ (Holds xs n ⊎ IsWithin (low, high) n)
absorbed_holds low high [] order from apart n = rw (absorbed_none low high) ((λ h. elim h [ inl w ↦ inr w | inr never ↦ inl never ]), (λ h. elim h [ inl never ↦ inr never | inr w ↦ inl w ]))
absorbed_holds low high (r ∷ rest) order from apart n =
    elim (cases_lt (high + 1) r.0) [
      | inl gap ↦ rw (absorbed_gap low high r rest gap) (
        (λ h. elim h [ inl w ↦ inr w | inr there ↦ inl there ]),
        (λ h. elim h [ inl there ↦ inr there | inr w ↦ inl w ]),
      )
      | inr touches ↦
          let more = absorbed_holds (min low r.0) (max high r.1) rest (omega (arith, order, apart.0)) (ends_past (min low r.0) (r.1 + 1) rest (omega (arith, apart.0)) apart.1 apart.2) apart.2 n in
          let both = joined_within low high r.0 r.1 n order apart.0 touches from in
          rw (absorbed_more low high r rest touches) (
            (λ h. elim (more.0 h) [
              | inl there ↦ inl (inr there)
              | inr w ↦ elim (both.0 w) [ inl here ↦ inr here | inr first ↦ inl (inl first) ]
            ]),
            (λ h. elim h [
              | inl there ↦ elim there [ inl first ↦ more.1 (inr (both.1 (inr first))) | inr later ↦ more.1 (inl later) ]
              | inr here ↦ more.1 (inr (both.1 (inl here)))
            ]),
          )
    ]

absorbed_apart : (low high : ℕ) (xs : List (ℕ × ℕ)) → low ≤ high → AreApart next_byte xs → AreApart next_byte (absorbed low high xs)
absorbed_apart low high [] order apart = rw (absorbed_none low high) (order, tt, tt)
absorbed_apart low high (r ∷ rest) order apart =
    elim (cases_lt (high + 1) r.0) [
      | inl gap ↦ rw (absorbed_gap low high r rest gap) (order, gap, apart)
      | inr touches ↦ rw (absorbed_more low high r rest touches) (absorbed_apart (min low r.0) (max high r.1) rest (omega (arith, order, apart.0)) apart.2)
    ]

absorbed_past : (m low high : ℕ) (xs : List (ℕ × ℕ)) → m < low → StartsPast m xs → AreApart next_byte xs → StartsPast m (absorbed low high xs)
absorbed_past m low high [] under past apart = rw (absorbed_none low high) under
absorbed_past m low high (r ∷ rest) under past apart =
    elim (cases_lt (high + 1) r.0) [
      | inl gap ↦ rw (absorbed_gap low high r rest gap) under
      | inr touches ↦ rw (absorbed_more low high r rest touches) (absorbed_past m (min low r.0) (max high r.1) rest (omega (arith, under, past)) (past_less m (r.1 + 1) rest (omega (arith, past, apart.0)) apart.1) apart.2)
    ]

united_none : (low high : ℕ) → united low high [] ≡ (low, high) ∷ []
unfolding united
united_none low high = refl

united_past : (m low high : ℕ) (xs : List (ℕ × ℕ)) → m < low → StartsPast m xs → AreApart next_byte xs → StartsPast m (united low high xs)
united_past m low high [] under past apart = rw (united_none low high) under
united_past m low high (r ∷ rest) under past apart =
    elim (cases_lt (r.1 + 1) low) [
      | inl before ↦ rw (united_before low high r rest before) past
      | inr here ↦ rw (united_here low high r rest here) (absorbed_past m low high (r ∷ rest) under past apart)
    ]

united_is_apart : (low high : ℕ) (xs : List (ℕ × ℕ)) → low ≤ high → AreApart next_byte xs → AreApart next_byte (united low high xs)
united_is_apart low high [] order apart = rw (united_none low high) (order, tt, tt)
united_is_apart low high (r ∷ rest) order apart =
    elim (cases_lt (r.1 + 1) low) [
      | inl before ↦ rw (united_before low high r rest before) (apart.0, united_past (r.1 + 1) low high rest before apart.1 apart.2, united_is_apart low high rest order apart.2)
      | inr here ↦ rw (united_here low high r rest here) (absorbed_apart low high (r ∷ rest) order apart)
    ]

united_is_held : (low high : ℕ) (xs : List (ℕ × ℕ)) → low ≤ high → AreApart next_byte xs
    → (n : ℕ) → Holds (united low high xs) n ↔ (Holds xs n ⊎ IsWithin (low, high) n)
united_is_held low high [] order apart n = rw (united_none low high) ((λ h. elim h [ inl w ↦ inr w | inr never ↦ inl never ]), (λ h. elim h [ inl never ↦ inr never | inr w ↦ inl w ]))
united_is_held low high (r ∷ rest) order apart n =
    elim (cases_lt (r.1 + 1) low) [
      | inl before ↦
          let more = united_is_held low high rest order apart.2 n in
          rw (united_before low high r rest before) (
            (λ h. elim h [
              | inl first ↦ inl (inl first)
              | inr later ↦ elim (more.0 later) [ inl there ↦ inl (inr there) | inr here ↦ inr here ]
            ]),
            (λ h. elim h [
              | inl there ↦ elim there [ inl first ↦ inl first | inr later ↦ inr (more.1 (inl later)) ]
              | inr here ↦ inr (more.1 (inr here))
            ]),
          )
      | inr here ↦ rw (united_here low high r rest here) (absorbed_holds low high (r ∷ rest) order here apart n)
    ]

at_place : (xs : List (ℕ × ℕ)) (i : ℕ) (d : ℕ × ℕ) → i < length xs → drop i xs ≡ get_or xs i d ∷ drop (i + 1) xs
at_place xs i d within = rw add-one (drop-cons xs i d within)

-- one more range is taken in
pub absorbed_next : (xs : List (ℕ × ℕ)) (i low high from to : ℕ) (d : ℕ × ℕ) → i < length xs → from ≡ (get_or xs i d).0 → to ≡ (get_or xs i d).1
    → (gap : Bool) → gap ≡ nat_lt (high + 1) from → gap ≡ false
    → absorbed (min low from) (max high to) (drop (i + 1) xs) ≡ absorbed low high (drop i xs)
absorbed_next xs i low high from to d within start end gap is no_gap =
    let touches : (get_or xs i d).0 ≤ high + 1 = grind (arith, nat_tests) in
    rw (start, end) (sym (ap (absorbed low high) (at_place xs i d within) ∙ absorbed_more low high (get_or xs i d) (drop (i + 1) xs) touches))

-- no further range is
pub absorbed_end : (xs : List (ℕ × ℕ)) (i low high : ℕ) → length xs ≤ i → absorbed low high (drop i xs) ≡ (low, high) ∷ drop i xs
absorbed_end xs i low high past = let e = drop_of_length-le xs past in rw e (absorbed_none low high)

pub absorbed_stop : (xs : List (ℕ × ℕ)) (i low high from : ℕ) (d : ℕ × ℕ) → i < length xs → from ≡ (get_or xs i d).0
    → (gap : Bool) → gap ≡ nat_lt (high + 1) from → gap ≡ true
    → absorbed low high (drop i xs) ≡ (low, high) ∷ drop i xs
absorbed_stop xs i low high from d within start gap is yes_gap =
    let apart : high + 1 < (get_or xs i d).0 = grind (arith, nat_tests) in
    let e = at_place xs i d within in rw e (absorbed_gap low high (get_or xs i d) (drop (i + 1) xs) apart)

-- what is put in place is what is united
pub put_united : (xs : List (ℕ × ℕ)) (start end first last low high : ℕ) → first ≡ prefix_len (ends_before start) xs
    → absorbed low high (drop last xs) ≡ absorbed start end (drop first xs)
    → absorbed low high (drop last xs) ≡ (low, high) ∷ drop last xs
    → take first xs ++ (low, high) ∷ drop last xs ≡ united start end xs
put_united xs start end first last low high count same stop =
    ap (λ ys. take first xs ++ ys) (sym stop ∙ same)
    ∙ ap (λ (k : ℕ). take k xs ++ absorbed start end (drop k xs)) count
    ∙ sym (united_parts start end xs)

-- no number that a range holds is past the limit, where no end is
held_below : (limit : ℕ) (rs : List (ℕ × ℕ)) → All (λ range. range.1 < limit) rs → (n : ℕ) → Holds rs n → n < limit
held_below limit [] below n held = absurd held
held_below limit (r ∷ rest) below n held = elim held [
  | inl w ↦ let first : r.1 < limit = below 0 r (omega arith) in omega (arith, w.1, first)
  | inr later ↦ held_below limit rest (λ k d h. below (suc k) d (omega arith)) n later
]

ends_below : (limit : ℕ) (rs : List (ℕ × ℕ)) → AreApart next_byte rs → ((n : ℕ) → Holds rs n → n < limit) → All (λ range. range.1 < limit) rs
ends_below limit [] apart below k d h = absurd (omega arith)
ends_below limit (r ∷ rest) apart below zero d h = below r.1 (inl (apart.0, omega arith))
ends_below limit (r ∷ rest) apart below (suc k) d h = ends_below limit rest apart.2 (λ n later. below n (inr later)) k d (omega arith)

-- what both outcomes give
either_way : {T E P Q C : Type 0} (r : Result T E) → OnOk r P → OnErr r Q → (P → C) → (Q → C) → C
either_way (Ok x) p q f g = f p
either_way (Err x) p q f g = g q

-- it stands apart, united or not
pub united_apart : {T E : Type 0} (r : Result T E) (start end : ℕ) (xs ys : List (ℕ × ℕ)) → OnOk r (ys ≡ united start end xs) → OnErr r (ys ≡ xs)
    → start ≤ end → AreApart next_byte xs → AreApart next_byte ys
united_apart r start end xs ys made kept order apart =
    either_way r made kept (λ is. subst (AreApart next_byte) (sym is) (united_is_apart start end xs order apart)) (λ is. subst (AreApart next_byte) (sym is) apart)

-- and holds what either holds
pub united_holds : (start end : ℕ) (xs ys : List (ℕ × ℕ)) → ys ≡ united start end xs → start ≤ end → AreApart next_byte xs
    → (n : ℕ) → Holds ys n ↔ (Holds xs n ⊎ IsWithin (start, end) n)
united_holds start end xs ys is order apart n =
    let Both : List (ℕ × ℕ) → Type 0 = λ zs. Holds zs n ↔ (Holds xs n ⊎ IsWithin (start, end) n) in
    subst Both (sym is) (united_is_held start end xs order apart n)

-- and keeps below a limit
pub united_below : {T E : Type 0} (r : Result T E) (start end : ℕ) (xs ys : List (ℕ × ℕ)) → OnOk r (ys ≡ united start end xs) → OnErr r (ys ≡ xs)
    → start ≤ end → AreApart next_byte xs
    → (limit : ℕ) → end < limit → All (λ range. range.1 < limit) xs → All (λ range. range.1 < limit) ys
united_below r start end xs ys made kept order apart limit under below =
    let Below : List (ℕ × ℕ) → Type 0 = All (λ range. range.1 < limit) in
    let whole = united_is_held start end xs order apart in
    let held : (n : ℕ) → Holds (united start end xs) n → n < limit = λ n there. elim ((whole n).0 there) [
      | inl old ↦ held_below limit xs below n old
      | inr w ↦ omega (arith, w.1, under)
    ] in
    either_way r made kept (λ is. subst Below (sym is) (ends_below limit (united start end xs) (united_is_apart start end xs order apart) held)) (λ is. subst Below (sym is) below)

-- the ends of a range of the list are in order
pub ordered_at : (rs : List (ℕ × ℕ)) → AreApart next_byte rs → (k : ℕ) (d : ℕ × ℕ) → k < length rs → (get_or rs k d).0 ≤ (get_or rs k d).1
ordered_at [] apart k d h = absurd (omega arith)
ordered_at (r ∷ rest) apart zero d h = apart.0
ordered_at (r ∷ rest) apart (suc k) d h = ordered_at rest apart.2 k d (omega arith)
