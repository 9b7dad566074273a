-- A pattern can't be stripped exactly where a part must take a byte of the terminator.
use Rattle.std.proofs.Common.{◌≡◌, ◌↔◌, ℕ, suc, ◌<◌, Bool, true, false, ◌⊎◌, inl, inr, List, [], ◌∷◌, Some, None, if◌then◌else◌, refl, sym, ap, ap₂, ◌∙◌, subst, true≢false, All, Contains, eq-eqb, arith}
use Rattle.std.specs.Prelude.{◌&&◌, ◌||◌, ◌==◌, not}
use Rattle.std.specs.List.{list_any}
use Rattle.std.proofs.lemmas.Bool.Decides.{nat_tests}
use Rattle.std.proofs.lemmas.Bool.{ne_eqb, eqb-true, or_left, or_right, and_parts}
use Rattle.std.proofs.lemmas.List.Folds.{list_any_at}
use Rattle.std.proofs.lemmas.Option.{none-some}
use Rattle.grep_regex.specs.Exact.{HoldsOnly, MustTake, OneMustTake, IsTidy, AreTidy}
use Rattle.hir_tree.specs.Ranges.{Holds, AreApart, next_byte, next_char}
use Rattle.hir_tree.specs.Runs.{in_set}
use Rattle.grep_regex.specs.Stripping.{without, is_alone, strip_byte, strip_each, stripped, asks_for, one_asks_for, not_allowed, is_one_of}
use Rattle.hir_tree.specs.Tree.{Tree, Trees, none, more}
use Rattle.hir_tree.specs.Tree as tree
use Rattle.grep_regex.proofs.laws.OptionsLemmas.{less-held}
use Rattle.pattern_syntax.proofs.RangesLemmas.{held, holds}
use Rattle.grep_regex.proofs.laws.StrippingLemmas.{in_without}
use Rattle.grep_regex.proofs.laws.TreeLemmas.{allowed-parts}
use Rattle.grep_regex.proofs.laws.WithoutLemmas.{bytes-without, chars-without}

-- another number stays
still-held : (b : ℕ) (set : List (ℕ × ℕ)) (c : ℕ) → (c ≡ b → ⊥) → Holds set c → Holds (without b set) c
still-held b set c ne h =
    holds (without b set) c (in_without b c set ∙ ap₂ (λ x y. x && not y) (held set c h) (ne_eqb c b ne))

one-is : (b c : ℕ) → is_one_of (b ∷ []) c ≡ true → c ≡ b
one-is b c e = grind (arith, nat_tests)

is-one : (b : ℕ) → is_one_of (b ∷ []) b ≡ true
is-one b = ap (λ x. x || false) (eq-eqb b b refl)

-- the numbers of a class that is one number alone
module _ (next : ℕ → ℕ) (grows : (x : ℕ) → x < next x) (b : ℕ) where
  alone-only : (ranges : List (ℕ × ℕ)) → is_alone b ranges ≡ true → HoldsOnly (b ∷ []) ranges
  alone-only [] e = absurd (true≢false (sym e))
  alone-only (r ∷ s ∷ rest) e = absurd (true≢false (sym e))
  alone-only (r ∷ []) e =
      let parts = and_parts (r.0 == b) (r.1 == b) e in
      let low : r.0 ≡ b = eqb-true r.0 b parts.0 in
      let high : r.1 ≡ b = eqb-true r.1 b parts.1 in (
        (b, inl (omega arith, omega arith)),
        (λ c h. elim h [
          | inl w ↦ let same : b ≡ c = omega (arith, w.0, w.1) in subst (λ (k : ℕ). is_one_of (b ∷ []) k ≡ true) same (is-one b)
          | inr never ↦ absurd never
        ]),
      )

  only-alone : (ranges : List (ℕ × ℕ)) → AreApart next ranges → HoldsOnly (b ∷ []) ranges → is_alone b ranges ≡ true
  only-alone [] apart h = absurd h.0.1
  only-alone (r ∷ []) apart h =
      let low : r.0 ≡ b = one-is b r.0 (h.1 r.0 (inl (omega arith, apart.0))) in
      let high : r.1 ≡ b = one-is b r.1 (h.1 r.1 (inl (apart.0, omega arith))) in
      ap₂ (λ x y. x && y) (eq-eqb r.0 b low) (eq-eqb r.1 b high)
  only-alone (r ∷ s ∷ rest) apart h =
      let low : r.0 ≡ b = one-is b r.0 (h.1 r.0 (inl (omega arith, apart.0))) in
      let other : s.0 ≡ b = one-is b s.0 (h.1 s.0 (inr (inl (omega arith, apart.2.0)))) in
      absurd (omega (arith, apart.0, apart.1, grows r.1))

  -- a class that holds nothing but these numbers holds the first alone, or without it nothing but the others
  only-split : (others : List ℕ) (ranges : List (ℕ × ℕ)) → AreApart next (without b ranges) → HoldsOnly (b ∷ others) ranges
      → HoldsOnly (b ∷ []) ranges ⊎ HoldsOnly others (without b ranges)
  only-split others ranges apart h = cases (without b ranges) refl
    where
      is_b : (c : ℕ) → without b ranges ≡ [] → Holds ranges c → is_one_of (b ∷ []) c ≡ true
      is_b c e inside = cases (c == b) refl
        where
          cases : (t : Bool) → (c == b) ≡ t → (t || false) ≡ true
          cases true k = refl
          cases false k =
              absurd (subst (λ (xs : List (ℕ × ℕ)). Holds xs c) e (still-held b ranges c (λ same. true≢false (sym (eq-eqb c b same) ∙ k)) inside))

      other : (c : ℕ) → Holds (without b ranges) c → is_one_of others c ≡ true
      other c inside =
          let in_both = sym (in_without b c ranges) ∙ held (without b ranges) c inside in
          let parts = and_parts (in_set ranges c) (not (c == b)) in_both in
          flat (c == b) (h.1 c (holds ranges c parts.0)) parts.1
        where
          flat : (t : Bool) → (t || is_one_of others c) ≡ true → not t ≡ true → is_one_of others c ≡ true
          flat true e k = absurd (true≢false (sym k))
          flat false e k = e

      cases : (xs : List (ℕ × ℕ)) → without b ranges ≡ xs → HoldsOnly (b ∷ []) ranges ⊎ HoldsOnly others (without b ranges)
      cases [] e = inl (h.0, (λ c inside. is_b c e inside))
      cases (r ∷ rest) e =
          let order : AreApart next (r ∷ rest) = subst (AreApart next) e apart in
          let inside : Holds (without b ranges) r.0 = subst (λ (xs : List (ℕ × ℕ)). Holds xs r.0) (sym e) (inl (omega arith, order.0)) in
          inr ((r.0, inside), other)

  only-join : (others : List ℕ) (ranges : List (ℕ × ℕ)) → HoldsOnly others (without b ranges) → HoldsOnly (b ∷ others) ranges
  only-join others ranges h = ((h.0.0, less-held b ranges h.0.0 h.0.1), (λ c inside. cases c inside (c == b) refl))
    where
      cases : (c : ℕ) → Holds ranges c → (t : Bool) → (c == b) ≡ t → (t || is_one_of others c) ≡ true
      cases c inside true k = refl
      cases c inside false k = h.1 c (still-held b ranges c (λ same. true≢false (sym (eq-eqb c b same) ∙ k)) inside)

byte-grows : (x : ℕ) → x < next_byte x
byte-grows x = omega arith

char-grows : (x : ℕ) → x < next_char x
char-grows x = grind (arith, nat_tests)

-- a byte that a text holds
stands : (b : ℕ) (text : List ℕ) → list_any (λ c. c == b) text ≡ true → Contains text b
stands b [] e = absurd (true≢false (sym e))
stands b (c ∷ text) e = cases (stands b text) (c == b) refl e
  where
    cases : (list_any (λ c. c == b) text ≡ true → Contains text b) → (t : Bool) → (c == b) ≡ t → (t || list_any (λ c. c == b) text) ≡ true → Contains (c ∷ text) b
    cases later true k e = (0, omega arith, eqb-true c b k)
    cases later false k e = let found = later e in (suc found.0, omega (arith, found.1), found.2)

mutual
  pub must-take : (b : ℕ) (t : Tree) → asks_for b t ≡ true → MustTake (b ∷ []) t
  must-take b tree.empty e = absurd (true≢false (sym e))
  must-take b (tree.literal text) e = (b, stands b text e, is-one b)
  must-take b (tree.class_chars ranges) e = alone-only next_char char-grows b ranges e
  must-take b (tree.class_bytes ranges) e = alone-only next_byte byte-grows b ranges e
  must-take b (tree.look kind) e = absurd (true≢false (sym e))
  must-take b (tree.repetition least most greedy part) e = must-take b part e
  must-take b (tree.capture index name part) e = must-take b part e
  must-take b (tree.concat parts) e = one-must b parts e
  must-take b (tree.alternation parts) e = one-must b parts e

  one-must : (b : ℕ) (ts : Trees) → one_asks_for b ts ≡ true → OneMustTake (b ∷ []) ts
  one-must b none e = absurd (true≢false (sym e))
  one-must b (more part rest) e = cases (must-take b part) (one-must b rest) (asks_for b part) (one_asks_for b rest) refl refl e
    where
      cases : (asks_for b part ≡ true → MustTake (b ∷ []) part) → (one_asks_for b rest ≡ true → OneMustTake (b ∷ []) rest)
          → (x y : Bool) → asks_for b part ≡ x → one_asks_for b rest ≡ y → (x || y) ≡ true → MustTake (b ∷ []) part ⊎ OneMustTake (b ∷ []) rest
      cases first later true y f l e = inl (first f)
      cases first later false true f l e = inr (later l)
      cases first later false false f l e = absurd (true≢false (sym e))

mutual
  pub asks-must : (b : ℕ) (t : Tree) → IsTidy t → MustTake (b ∷ []) t → asks_for b t ≡ true
  asks-must b tree.empty tidy h = absurd h
  asks-must b (tree.literal text) tidy h =
      list_any_at (λ c. c == b) text h.1.0 h.0 h.1.1 (ap (λ c. c == b) h.1.2 ∙ eq-eqb h.0 b (one-is b h.0 h.2))
  asks-must b (tree.class_chars ranges) tidy h = only-alone next_char char-grows b ranges tidy.0 h
  asks-must b (tree.class_bytes ranges) tidy h = only-alone next_byte byte-grows b ranges tidy.0 h
  asks-must b (tree.look kind) tidy h = absurd h
  asks-must b (tree.repetition least most greedy part) tidy h = asks-must b part tidy h
  asks-must b (tree.capture index name part) tidy h = asks-must b part tidy h
  asks-must b (tree.concat parts) tidy h = one-asks b parts tidy h
  asks-must b (tree.alternation parts) tidy h = one-asks b parts tidy h

  one-asks : (b : ℕ) (ts : Trees) → AreTidy ts → OneMustTake (b ∷ []) ts → one_asks_for b ts ≡ true
  one-asks b none tidy h = absurd h
  one-asks b (more part rest) tidy h = elim h [
    | inl first ↦ or_left _ _ (asks-must b part tidy.0 first)
    | inr later ↦ or_right _ _ (one-asks b rest tidy.1 later)
  ]

pub asking-exact : (b : ℕ) (t : Tree) → IsTidy t → (asks_for b t ≡ true) ↔ MustTake (b ∷ []) t
asking-exact b t tidy = (must-take b t, asks-must b t tidy)

mutual
  tidy-stripped : (b : ℕ) (t : Tree) → b < 128 → IsTidy t → IsTidy (strip_byte b t)
  tidy-stripped b tree.empty small h = tt
  tidy-stripped b (tree.literal text) small h = tt
  tidy-stripped b (tree.class_chars ranges) small h = chars-without b ranges small h
  tidy-stripped b (tree.class_bytes ranges) small h = bytes-without b ranges h
  tidy-stripped b (tree.look kind) small h = tt
  tidy-stripped b (tree.repetition least most greedy part) small h = tidy-stripped b part small h
  tidy-stripped b (tree.capture index name part) small h = tidy-stripped b part small h
  tidy-stripped b (tree.concat parts) small h = each-tidy b parts small h
  tidy-stripped b (tree.alternation parts) small h = each-tidy b parts small h

  each-tidy : (b : ℕ) (ts : Trees) → b < 128 → AreTidy ts → AreTidy (strip_each b ts)
  each-tidy b none small h = tt
  each-tidy b (more part rest) small h = (tidy-stripped b part small h.0, each-tidy b rest small h.1)

pub tidy-all : (bytes : List ℕ) (t : Tree) → All (λ b. b < 128) bytes → IsTidy t → IsTidy (stripped bytes t)
tidy-all [] t small h = h
tidy-all (b ∷ rest) t small h = tidy-all rest (strip_byte b t) (λ k d lt. small (suc k) d (omega arith)) (tidy-stripped b t (small 0 b (omega arith)) h)

mutual
  must-split : (b : ℕ) (others : List ℕ) (t : Tree) → b < 128 → IsTidy t → MustTake (b ∷ others) t
      → MustTake (b ∷ []) t ⊎ MustTake others (strip_byte b t)
  must-split b others tree.empty small tidy h = absurd h
  must-split b others (tree.literal text) small tidy h = cases (h.0 == b) refl h.2
    where
      cases : (x : Bool) → (h.0 == b) ≡ x → (x || is_one_of others h.0) ≡ true
          → MustTake (b ∷ []) (tree.literal text) ⊎ MustTake others (tree.literal text)
      cases true k e = inl (h.0, h.1, ap (λ x. x || false) k)
      cases false k e = inr (h.0, h.1, e)
  must-split b others (tree.class_chars ranges) small tidy h = only-split next_char char-grows b others ranges (chars-without b ranges small tidy).0 h
  must-split b others (tree.class_bytes ranges) small tidy h = only-split next_byte byte-grows b others ranges (bytes-without b ranges tidy).0 h
  must-split b others (tree.look kind) small tidy h = absurd h
  must-split b others (tree.repetition least most greedy part) small tidy h = must-split b others part small tidy h
  must-split b others (tree.capture index name part) small tidy h = must-split b others part small tidy h
  must-split b others (tree.concat parts) small tidy h = one-split b others parts small tidy h
  must-split b others (tree.alternation parts) small tidy h = one-split b others parts small tidy h

  one-split : (b : ℕ) (others : List ℕ) (ts : Trees) → b < 128 → AreTidy ts → OneMustTake (b ∷ others) ts
      → OneMustTake (b ∷ []) ts ⊎ OneMustTake others (strip_each b ts)
  one-split b others none small tidy h = absurd h
  one-split b others (more part rest) small tidy h = elim h [
    | inl first ↦ elim (must-split b others part small tidy.0 first) [ inl x ↦ inl (inl x) | inr y ↦ inr (inl y) ]
    | inr later ↦ elim (one-split b others rest small tidy.1 later) [ inl x ↦ inl (inr x) | inr y ↦ inr (inr y) ]
  ]

only-first : (b : ℕ) (others : List ℕ) (c : ℕ) → is_one_of (b ∷ []) c ≡ true → is_one_of (b ∷ others) c ≡ true
only-first b others c e = or_left _ _ (eq-eqb c b (one-is b c e))

mutual
  must-join : (b : ℕ) (others : List ℕ) (t : Tree) → MustTake (b ∷ []) t ⊎ MustTake others (strip_byte b t) → MustTake (b ∷ others) t
  must-join b others tree.empty h = elim h [ inl x ↦ x | inr y ↦ y ]
  must-join b others (tree.literal text) h = elim h [
    | inl x ↦ (x.0, x.1, only-first b others x.0 x.2)
    | inr y ↦ (y.0, y.1, or_right _ _ y.2)
  ]
  must-join b others (tree.class_chars ranges) h = elim h [
    | inl x ↦ (x.0, (λ c inside. only-first b others c (x.1 c inside)))
    | inr y ↦ only-join next_char char-grows b others ranges y
  ]
  must-join b others (tree.class_bytes ranges) h = elim h [
    | inl x ↦ (x.0, (λ c inside. only-first b others c (x.1 c inside)))
    | inr y ↦ only-join next_byte byte-grows b others ranges y
  ]
  must-join b others (tree.look kind) h = elim h [ inl x ↦ x | inr y ↦ y ]
  must-join b others (tree.repetition least most greedy part) h = must-join b others part h
  must-join b others (tree.capture index name part) h = must-join b others part h
  must-join b others (tree.concat parts) h = one-join b others parts h
  must-join b others (tree.alternation parts) h = one-join b others parts h

  one-join : (b : ℕ) (others : List ℕ) (ts : Trees) → OneMustTake (b ∷ []) ts ⊎ OneMustTake others (strip_each b ts) → OneMustTake (b ∷ others) ts
  one-join b others none h = elim h [ inl x ↦ x | inr y ↦ y ]
  one-join b others (more part rest) h = elim h [
    | inl x ↦ elim x [ inl first ↦ inl (must-join b others part (inl first)) | inr later ↦ inr (one-join b others rest (inl later)) ]
    | inr y ↦ elim y [ inl first ↦ inl (must-join b others part (inr first)) | inr later ↦ inr (one-join b others rest (inr later)) ]
  ]

mutual
  nothing-must : (t : Tree) → MustTake [] t → ⊥
  nothing-must tree.empty h = h
  nothing-must (tree.literal text) h = true≢false (sym h.2)
  nothing-must (tree.class_chars ranges) h = true≢false (sym (h.1 h.0.0 h.0.1))
  nothing-must (tree.class_bytes ranges) h = true≢false (sym (h.1 h.0.0 h.0.1))
  nothing-must (tree.look kind) h = h
  nothing-must (tree.repetition least most greedy part) h = nothing-must part h
  nothing-must (tree.capture index name part) h = nothing-must part h
  nothing-must (tree.concat parts) h = none-must parts h
  nothing-must (tree.alternation parts) h = none-must parts h

  none-must : (ts : Trees) → OneMustTake [] ts → ⊥
  none-must none h = h
  none-must (more part rest) h = elim h [ inl first ↦ nothing-must part first | inr later ↦ none-must rest later ]

pub refused-exactly : (bytes : List ℕ) (t : Tree) → All (λ b. b < 128) bytes → IsTidy t → (not_allowed bytes t ≡ None) ↔ (MustTake bytes t → ⊥)
refused-exactly [] t small tidy = ((λ e. nothing-must t), (λ h. refl))
refused-exactly (b ∷ rest) t small tidy =
    let later = refused-exactly rest (strip_byte b t) (λ k d lt. small (suc k) d (omega arith)) (tidy-stripped b t (small 0 b (omega arith)) tidy) in (
      (λ e h.
          let parts = allowed-parts b rest t e in
          elim (must-split b rest t (small 0 b (omega arith)) tidy h) [
            | inl x ↦ true≢false (sym (asks-must b t tidy x) ∙ parts.0)
            | inr y ↦ later.0 parts.1 y
          ]),
      (λ h. cases (later.1 (λ y. h (must-join b rest t (inr y)))) h (asks_for b t) refl),
    )
  where
    cases : not_allowed rest (strip_byte b t) ≡ None → (MustTake (b ∷ rest) t → ⊥) → (a : Bool) → asks_for b t ≡ a
        → (if a then Some b else not_allowed rest (strip_byte b t)) ≡ None
    cases e h true k = absurd (h (must-join b rest t (inl (must-take b t k))))
    cases e h false k = e

-- where it is refused for a byte, a part must take one of them
pub must-refused : (bytes : List ℕ) (t : Tree) (byte : ℕ) → not_allowed bytes t ≡ Some byte → MustTake bytes t
must-refused [] t byte e = absurd (none-some byte e)
must-refused (b ∷ rest) t byte e = cases (must-refused rest (strip_byte b t) byte) (asks_for b t) refl e
  where
    cases : (not_allowed rest (strip_byte b t) ≡ Some byte → MustTake rest (strip_byte b t)) → (a : Bool) → asks_for b t ≡ a
        → (if a then Some b else not_allowed rest (strip_byte b t)) ≡ Some byte → MustTake (b ∷ rest) t
    cases later true k h = must-join b rest t (inl (must-take b t k))
    cases later false k h = must-join b rest t (inr (later h))
