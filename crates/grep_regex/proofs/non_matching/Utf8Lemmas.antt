-- The bytes of the UTF-8 of the characters of a range.
use Rattle.std.proofs.Common.{◌≡◌, ◌↔◌, ◌⊎◌, ℕ, suc, ◌+◌, ◌-◌, ◌*◌, ◌/◌, ◌%◌, ◌<◌, ◌≤◌, min, max, List, [], ◌∷◌, ◌++◌, All, Contains, Some, refl, sym, ap, subst, ◌∙◌, inl, inr, ⊎_elim, arith, lt-ltb, le-ltb}
use Rattle.std.proofs.lemmas.Bool.{cond-true, cond-false, cases_lt}
use Rattle.std.proofs.lemmas.Bool.Decides.{nat_tests}
use Rattle.std.proofs.lemmas.List.Elements.{All-pop, Contains-append_left, Contains-push, Contains-push_cases}
use Rattle.std.proofs.Math.Utf8.{low_scalar, scalar_cases}
use Rattle.std.specs.Char.{IsScalar, encode_utf8}
use Rattle.grep_matcher.specs.declared.byte_set.ByteSet.{ByteSet}
use Rattle.grep_regex.specs.Removed.{HasLost, IsContinuationOf, IsInFormOf, IsInUtf8Of, continuation_byte, utf8_form}
use Rattle.grep_regex.proofs.non_matching.RemovedLemmas.{IsSameWithout, both_lost, contains_first_or_rest, one_kind_less, same_lost}
use Rattle.hir_tree.specs.Ranges.{Holds, IsWithin}

-- a byte of a form is its last one, or in the form of a sixty-fourth of the number
pub byte_of_form : (prefix continuations n b : ℕ)
    → Contains (utf8_form prefix (suc continuations) n) b ↔ ((continuation_byte n ≡ b) ⊎ Contains (utf8_form prefix continuations (n / 64)) b)
byte_of_form prefix continuations n b =
    let top = utf8_form prefix continuations (n / 64) in let last = continuation_byte n in (
      (λ h. ⊎_elim (λ above. inr above) (λ e. inl e) (Contains-push_cases top last b h)),
      (λ h.
          ⊎_elim
          (λ (e : last ≡ b). subst (λ (y : ℕ). Contains (top ++ last ∷ []) y) e (Contains-push top last))
          (λ above. Contains-append_left top (last ∷ []) b above)
          h),
    )

-- without continuation bytes a form is one byte
pub byte_of_short_form : (prefix n b : ℕ) → Contains (utf8_form prefix 0 n) b ↔ (prefix + n ≡ b)
byte_of_short_form prefix n b = (
  (λ h. ⊎_elim (λ (e : prefix + n ≡ b). e) (λ none. absurd (omega (arith, none.1))) ((contains_first_or_rest (prefix + n) [] b).0 h)),
  (λ e. (contains_first_or_rest (prefix + n) [] b).1 (inl e)),
)

-- the bytes of the forms of a range are the continuation bytes of its numbers and the bytes of the forms of their sixty-fourths
pub bytes_of_forms : (prefix continuations first last b : ℕ) → first ≤ last
    → IsInFormOf prefix (suc continuations) (first, last) b
    ↔ (IsContinuationOf (first, last) b ⊎ IsInFormOf prefix continuations (first / 64, last / 64) b)
bytes_of_forms prefix continuations first last b order = (
  (λ h.
      ⊎_elim
      (λ e. inl (h.0, h.1, e))
      (λ above. inr (h.0 / 64, (omega arith, omega arith), above))
      ((byte_of_form prefix continuations h.0 b).0 h.2)),
  (λ h.
      ⊎_elim
      (λ (one : IsContinuationOf (first, last) b). (one.0, one.1, (byte_of_form prefix continuations one.0 b).1 (inl one.2)))
      (λ (top : IsInFormOf prefix continuations (first / 64, last / 64) b).
      let n = max first (top.0 * 64) in
      let same : n / 64 ≡ top.0 = omega arith in
      let above = subst (λ (k : ℕ). Contains (utf8_form prefix continuations k) b) (sym same) top.2 in
      (n, (omega arith, omega arith), (byte_of_form prefix continuations n b).1 (inr above)))
      h),
)

-- without continuation bytes the forms of the numbers of a range are the bytes of a range
pub bytes_of_short_forms : (prefix first last b : ℕ) → IsWithin (prefix + first, prefix + last) b ↔ IsInFormOf prefix 0 (first, last) b
bytes_of_short_forms prefix first last b = (
  (λ h. let e : prefix + (b - prefix) ≡ b = omega arith in (b - prefix, (omega arith, omega arith), (byte_of_short_form prefix (b - prefix) b).1 e)),
  (λ h. let e : prefix + h.0 ≡ b = (byte_of_short_form prefix h.0 b).0 h.2 in (omega arith, omega arith)),
)

-- characters take one to four bytes
pub one_byte : (c : ℕ) → c < 0x80 → encode_utf8 c ≡ utf8_form 0 0 c
unfolding encode_utf8
one_byte c high = let e : c ≡ 0 + c = omega arith in cond-true _ _ _ (lt-ltb c 128 high) ∙ ap (λ (n : ℕ). n ∷ []) e

pub two_bytes : (c : ℕ) → 0x80 ≤ c → c < 0x800 → encode_utf8 c ≡ utf8_form 0xC0 1 c
unfolding encode_utf8
two_bytes c low high = cond-false _ _ _ (le-ltb c 128 low) ∙ cond-true _ _ _ (lt-ltb c 2048 high)

pub three_bytes : (c : ℕ) → 0x800 ≤ c → c < 0x1_0000 → encode_utf8 c ≡ utf8_form 0xE0 2 c
unfolding encode_utf8
three_bytes c low high =
    let e : c / 4096 ≡ (c / 64) / 64 = omega arith in
    cond-false _ _ _ (le-ltb c 128 (omega arith)) ∙ cond-false _ _ _ (le-ltb c 2048 low) ∙ cond-true _ _ _ (lt-ltb c 65536 high)
    ∙ ap (λ (top : ℕ). (224 + top) ∷ (128 + (c / 64) % 64) ∷ (128 + c % 64) ∷ []) e

pub four_bytes : (c : ℕ) → 0x1_0000 ≤ c → encode_utf8 c ≡ utf8_form 0xF0 3 c
unfolding encode_utf8
four_bytes c low =
    let e : c / 262144 ≡ ((c / 64) / 64) / 64 = omega arith in
    let f : c / 4096 ≡ (c / 64) / 64 = omega arith in
    cond-false _ _ _ (le-ltb c 128 (omega arith)) ∙ cond-false _ _ _ (le-ltb c 2048 (omega arith)) ∙ cond-false _ _ _ (le-ltb c 65536 low)
    ∙ ap (λ (top : ℕ). (240 + top) ∷ (128 + (c / 4096) % 64) ∷ (128 + (c / 64) % 64) ∷ (128 + c % 64) ∷ []) e
    ∙ ap (λ (mid : ℕ). (240 + ((c / 64) / 64) / 64) ∷ (128 + mid % 64) ∷ (128 + (c / 64) % 64) ∷ (128 + c % 64) ∷ []) f

-- the continuation bytes of at most 64 numbers in a row, up to and with this one, are those of all the numbers of the range
pub continuations_in_a_row : (first last number b : ℕ) → first ≤ last → number ≡ first + min (last - first) 63
    → (((n : ℕ) × (first ≤ n) × (n < number) × (continuation_byte n ≡ b)) ⊎ (continuation_byte number ≡ b)) ↔ IsContinuationOf (first, last) b
continuations_in_a_row first last number b order end = (
  (λ h.
      ⊎_elim
      (λ (one : (n : ℕ) × (first ≤ n) × (n < number) × (continuation_byte n ≡ b)). (one.0, (one.1, omega arith), one.3))
      (λ (e : continuation_byte number ≡ b). (number, (omega arith, omega arith), e))
      h),
  (λ h.
      let m = first + (h.0 - first) % 64 in
      let same : continuation_byte m ≡ b = omega arith in
      ⊎_elim (λ (less : m < number). inl (m, (omega arith), less, same)) (λ (more : number ≤ m). let is : m ≡ number = omega arith in inr (subst (λ (n : ℕ). continuation_byte n ≡ b) is same)) (cases_lt m number)),
)

-- each byte of the form of a sixty-fourth is below 256 where each byte of the form of the number is
pub top_fits : (prefix k continuations n : ℕ) → k ≡ suc continuations → All (λ b. b < 256) (utf8_form prefix k n) → All (λ b. b < 256) (utf8_form prefix continuations (n / 64))
top_fits prefix k continuations n is fits =
    (All-pop (λ b. b < 256) (utf8_form prefix (suc continuations) n) (utf8_form prefix continuations (n / 64)) (Some (continuation_byte n)) refl (subst (λ (j : ℕ). All (λ b. b < 256) (utf8_form prefix j n)) is fits)).0

-- where the last continuation bytes are lost, the forms of the sixty-fourths are left
pub sixty_fourths_left : (old set new : ByteSet) (Kind : ℕ → Type 0) (prefix k continuations first last : ℕ) → k ≡ suc continuations → first ≤ last
    → IsSameWithout old set Kind (IsInFormOf prefix k (first, last)) → HasLost set new (IsContinuationOf (first, last))
    → IsSameWithout old new Kind (IsInFormOf prefix continuations (first / 64, last / 64))
sixty_fourths_left old set new Kind prefix k continuations first last is order same lost =
    one_kind_less old set new Kind (IsInFormOf prefix (suc continuations) (first, last)) (IsContinuationOf (first, last)) (IsInFormOf prefix continuations (first / 64, last / 64))
    (subst (λ (j : ℕ). IsSameWithout old set Kind (IsInFormOf prefix j (first, last))) is same)
    (λ b. bytes_of_forms prefix continuations first last b order)
    lost

-- the UTF-8 of the characters of a range has one of five forms, which leave out U+D800 to U+DFFF
pub utf8_of_range : (start end b : ℕ)
    → ((((IsInFormOf 0 0 (start, min end 0x7F) b ⊎ IsInFormOf 0xC0 1 (max start 0x80, min end 0x7FF) b)
    ⊎ IsInFormOf 0xE0 2 (max start 0x800, min end 0xD7FF) b)
    ⊎ IsInFormOf 0xE0 2 (max start 0xE000, min end 0xFFFF) b)
    ⊎ IsInFormOf 0xF0 3 (max start 0x1_0000, min end 0x10_FFFF) b)
    ↔ IsInUtf8Of (start, end) b
utf8_of_range start end b = (
  ⊎_elim (⊎_elim (⊎_elim (⊎_elim
      (λ (h : IsInFormOf 0 0 (start, min end 0x7F) b). found h.0 (low_scalar h.0 (omega arith)) (omega arith, omega arith) _ (one_byte h.0 (omega arith)) h.2)
      (λ (h : IsInFormOf 0xC0 1 (max start 0x80, min end 0x7FF) b). found h.0 (low_scalar h.0 (omega arith)) (omega arith, omega arith) _ (two_bytes h.0 (omega arith) (omega arith)) h.2))
      (λ (h : IsInFormOf 0xE0 2 (max start 0x800, min end 0xD7FF) b). found h.0 (low_scalar h.0 (omega arith)) (omega arith, omega arith) _ (three_bytes h.0 (omega arith) (omega arith)) h.2))
      (λ (h : IsInFormOf 0xE0 2 (max start 0xE000, min end 0xFFFF) b). found h.0 (high_scalar h.0 (omega arith) (omega arith)) (omega arith, omega arith) _ (three_bytes h.0 (omega arith) (omega arith)) h.2))
      (λ (h : IsInFormOf 0xF0 3 (max start 0x1_0000, min end 0x10_FFFF) b). found h.0 (high_scalar h.0 (omega arith) (omega arith)) (omega arith, omega arith) _ (four_bytes h.0 (omega arith)) h.2),
  (λ h. in_a_form h.0 h.1 h.2 h.3),
)
  where
    high_scalar : (c : ℕ) → 0xE000 ≤ c → c < 0x11_0000 → IsScalar c
    high_scalar c low high = grind (arith, nat_tests)

    found : (c : ℕ) → IsScalar c → IsWithin (start, end) c → (bytes : List ℕ) → encode_utf8 c ≡ bytes → Contains bytes b → IsInUtf8Of (start, end) b
    found c scalar within bytes is holds = (c, scalar, within, subst (λ bs. Contains bs b) (sym is) holds)

    in_a_form : (c : ℕ) → IsScalar c → IsWithin (start, end) c → Contains (encode_utf8 c) b
        → (((IsInFormOf 0 0 (start, min end 0x7F) b ⊎ IsInFormOf 0xC0 1 (max start 0x80, min end 0x7FF) b)
        ⊎ IsInFormOf 0xE0 2 (max start 0x800, min end 0xD7FF) b)
        ⊎ IsInFormOf 0xE0 2 (max start 0xE000, min end 0xFFFF) b)
        ⊎ IsInFormOf 0xF0 3 (max start 0x1_0000, min end 0x10_FFFF) b
    in_a_form c scalar within holds =
        ⊎_elim
        (λ (one : c < 0x80). inl (inl (inl (inl (c, (omega arith, omega arith), subst (λ bs. Contains bs b) (one_byte c one) holds)))))
        (λ (past_one : 0x80 ≤ c).
        ⊎_elim
        (λ (two : c < 0x800). inl (inl (inl (inr (c, (omega arith, omega arith), subst (λ bs. Contains bs b) (two_bytes c past_one two) holds)))))
        (λ (past_two : 0x800 ≤ c).
        ⊎_elim
        (λ (three : c < 0x1_0000).
        let is = subst (λ bs. Contains bs b) (three_bytes c past_two three) holds in
        ⊎_elim
        (λ (low : c < 0xD800). inl (inl (inr (c, (omega arith, omega arith), is))))
        (λ (high : (0xE000 ≤ c) × (c < 0x11_0000)). inl (inr (c, (omega arith, omega arith), is)))
        (scalar_cases c scalar))
        (λ (four : 0x1_0000 ≤ c).
        ⊎_elim
        (λ (low : c < 0xD800). absurd (omega arith))
        (λ (high : (0xE000 ≤ c) × (c < 0x11_0000)). inr (c, (omega arith, omega arith), subst (λ bs. Contains bs b) (four_bytes c four) holds))
        (scalar_cases c scalar))
        (cases_lt c 0x1_0000))
        (cases_lt c 0x800))
        (cases_lt c 0x80)

-- a set that loses the five forms one after another loses the bytes of the UTF-8 of the range
pub range_of_chars_lost : (s0 s1 s2 s3 s4 s5 : ByteSet) (start end : ℕ)
    → HasLost s0 s1 (IsInFormOf 0 0 (start, min end 0x7F))
    → HasLost s1 s2 (IsInFormOf 0xC0 1 (max start 0x80, min end 0x7FF))
    → HasLost s2 s3 (IsInFormOf 0xE0 2 (max start 0x800, min end 0xD7FF))
    → HasLost s3 s4 (IsInFormOf 0xE0 2 (max start 0xE000, min end 0xFFFF))
    → HasLost s4 s5 (IsInFormOf 0xF0 3 (max start 0x1_0000, min end 0x10_FFFF))
    → HasLost s0 s5 (IsInUtf8Of (start, end))
range_of_chars_lost s0 s1 s2 s3 s4 s5 start end one two low high four =
    same_lost s0 s5 _ (IsInUtf8Of (start, end)) (utf8_of_range start end)
    (both_lost s0 s4 s5 _ _ (both_lost s0 s3 s4 _ _ (both_lost s0 s2 s3 _ _ (both_lost s0 s1 s2 _ _ one two) low) high) four)

-- the same forms of the same range
pub same_form_lost : (old new : ByteSet) (prefix continuations first last start end : ℕ) → first ≡ start → last ≡ end
    → HasLost old new (IsInFormOf prefix continuations (first, last)) → HasLost old new (IsInFormOf prefix continuations (start, end))
same_form_lost old new prefix continuations first last start end e f lost =
    subst (λ (n : ℕ). HasLost old new (IsInFormOf prefix continuations (n, end))) e (subst (λ (n : ℕ). HasLost old new (IsInFormOf prefix continuations (first, n))) f lost)

-- what a class of characters takes is what its first range takes or what the others take
pub taken_by_ranges : (range : ℕ × ℕ) (rest : List (ℕ × ℕ)) (b : ℕ)
    → ((c : ℕ) × IsScalar c × Holds (range ∷ rest) c × Contains (encode_utf8 c) b)
    ↔ (IsInUtf8Of range b ⊎ ((c : ℕ) × IsScalar c × Holds rest c × Contains (encode_utf8 c) b))
taken_by_ranges range rest b = (
  (λ h. ⊎_elim (λ (first : IsWithin range h.0). inl (h.0, h.1, first, h.3)) (λ (other : Holds rest h.0). inr (h.0, h.1, other, h.3)) h.2),
  (λ h.
      ⊎_elim
      (λ (first : IsInUtf8Of range b). (first.0, first.1, inl first.2, first.3))
      (λ (other : (c : ℕ) × IsScalar c × Holds rest c × Contains (encode_utf8 c) b). (other.0, other.1, inr other.2, other.3))
      h),
)
