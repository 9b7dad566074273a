-- The characters beside a place are those whose UTF-8 stands there.
use Rattle.std.proofs.Common.{◌≡◌, ◌↔◌, ◌⊎◌, ℕ, zero, suc, ◌+◌, ◌-◌, ◌<◌, ◌≤◌, nat_le, cond, List, ◌++◌, length, take, drop, slice_index, Option, Some, None, encode_utf8, refl, sym, ap, ◌∙◌, inl, inr, ⊎_elim, arith, append_assoc, length-append, length-drop, take-append-drop, get_or-drop, drop-drop, length-take-le}
use Rattle.std.proofs.lemmas.Bool.Decides.{nat_tests}
use Rattle.std.proofs.Math.Seq.{take-add, take-append_seam, drop-append_seam}
use Rattle.std.proofs.lemmas.Str.{length-encode, len_utf8_bounds}
use Rattle.std.specs.Option.{option_or}
use Rattle.bstr.specs.Utf8.{Decoded, decoded, good}
use Rattle.bstr.proofs.lemmas.PieceLemmas.{by-shape, value-2}
use Rattle.bstr.proofs.lemmas.SoundLemmas.{SpellsChar-decoded}
use Rattle.bstr.proofs.lemmas.EncodeLemmas.{decoded-encode}
use Rattle.hir_tree.specs.Sides.{char_after, char_before, char_of_length, char_of_length_before}
use Rattle.hir_tree.specs.Laws.{BeginsAt, EndsAt}

-- the character after a place is the one whose UTF-8 begins there
pub char_after_begins : (c : ℕ) (text : List ℕ) (at : ℕ) → (char_after text at ≡ Some c) ↔ BeginsAt c text at
char_after_begins c text at = (
  (λ found.
      let spelt = SpellsChar-decoded (drop at text) c found in
      (spelt.scalar, (drop (decoded (drop at text)).size (drop at text), spelt.bytes))),
  (λ begins.
      ap (λ (bs : List ℕ). (decoded bs).char) begins.1.1 ∙ ap (λ (p : Decoded). p.char) (decoded-encode c begins.1.0 begins.0)),
)

-- what is found before a place of so many bytes
found_parts : (p : Decoded) (n at c : ℕ) → cond (nat_le n at) (char_of_length n p) None ≡ Some c → (n ≤ at) × (p.size ≡ n) × (p.char ≡ Some c)
found_parts p n at c found = grind (arith, nat_tests)

-- that it is found, and where it isn't
found_from : (p : Decoded) (n at c : ℕ) → n ≤ at → p.size ≡ n → p.char ≡ Some c → cond (nat_le n at) (char_of_length n p) None ≡ Some c
found_from p n at c le size char = grind (arith, nat_tests)

found_none : (p : Decoded) (n at : ℕ) → p.char ≡ None → cond (nat_le n at) (char_of_length n p) None ≡ None
found_none p n at char = grind (arith, nat_tests)

-- what is found ends at the place
ends_of_length : (n c : ℕ) (text : List ℕ) (at : ℕ) → char_of_length_before n text at ≡ Some c → EndsAt c text at
ends_of_length n c text at found =
    let parts = found_parts (decoded (drop (at - n) text)) n at c found in
    let spelt = SpellsChar-decoded (drop (at - n) text) c parts.2 in
    let size : length (encode_utf8 c) ≡ n = spelt.width ∙ parts.1 in
    let rest = drop (decoded (drop (at - n) text)).size (drop (at - n) text) in
    let last : take n (drop (at - n) text) ≡ encode_utf8 c =
    ap (take n) spelt.bytes ∙ ap (λ (k : ℕ). take k (encode_utf8 c ++ rest)) (sym size) ∙ take-append_seam (encode_utf8 c) rest in
    let whole : (at - n) + n ≡ at = omega arith in (
      spelt.scalar,
      (
        take (at - n) text,
        ap (λ (k : ℕ). take k text) (sym whole) ∙ take-add (at - n) n text ∙ ap (λ bs. take (at - n) text ++ bs) last,
      ),
    )

-- what one or the other option holds
either_found : (o p : Option ℕ) (c : ℕ) → option_or o p ≡ Some c → (o ≡ Some c) ⊎ (p ≡ Some c)
either_found None p c e = inr e
either_found (Some x) p c e = inl e

-- so does what the four tries find
char_before_ends : (c : ℕ) (text : List ℕ) (at : ℕ) → char_before text at ≡ Some c → EndsAt c text at
unfolding char_before
char_before_ends c text at found =
    ⊎_elim (ends_of_length 1 c text at) (λ more.
    ⊎_elim (ends_of_length 2 c text at) (λ most.
    ⊎_elim (ends_of_length 3 c text at) (ends_of_length 4 c text at) (either_found _ _ c most)) (either_found _ _ c more)) (either_found _ _ c found)

-- a byte that begins no character stands at place k
abbrev pub IsInside : List ℕ → ℕ → Type 0
IsInside bs k = (k < length bs) × (0x80 ≤ slice_index bs k) × (slice_index bs k < 0xC2)

-- inside the UTF-8 of n bytes
record AreInside (bs : List ℕ) (n : ℕ) : Type 0 where
  second_byte : 1 < n → IsInside bs 1
  third_byte : 2 < n → IsInside bs 2
  fourth_byte : 3 < n → IsInside bs 3

inside : (bs : List ℕ) (c n : ℕ) → decoded bs ≡ good c n → AreInside bs n
inside bs c n is =
    let b = slice_index bs 0 in let x = slice_index bs 1 in let y = slice_index bs 2 in let z = slice_index bs 3 in
    let size = λ (p : Decoded) (e : decoded bs ≡ p). ap (λ (q : Decoded). q.size) (sym is ∙ e) in
    let char = λ (p : Decoded) (e : decoded bs ≡ p). ap (λ (q : Decoded). q.char) (sym is ∙ e) in
    by-shape (length bs) b x y z
    (λ h. let k = char _ h.1 in cc)
    (λ h. let k : n ≡ 1 = size _ h.2 in record { second_byte = λ l. absurd (omega arith); third_byte = λ l. absurd (omega arith); fourth_byte = λ l. absurd (omega arith) })
    (λ h. let k = char _ h.3 in cc) (λ h. let k = char _ h.2 in cc) (λ h. let k = char _ h.4 in cc) (λ h. let k = char _ h.4 in cc)
    (λ h.
    let k : n ≡ 2 = size _ h.4 in
    let one : IsInside bs 1 = (omega arith, grind (arith, nat_tests), grind (arith, nat_tests)) in
    record { second_byte = λ l. one; third_byte = λ l. absurd (omega arith); fourth_byte = λ l. absurd (omega arith) })
    (λ h. let k = char _ h.5 in cc) (λ h. let k = char _ h.5 in cc)
    (λ h.
    let k : n ≡ 3 = size _ h.5 in
    let one : IsInside bs 1 = (omega arith, grind (arith, nat_tests), grind (arith, nat_tests)) in
    let two : IsInside bs 2 = (omega arith, grind (arith, nat_tests), grind (arith, nat_tests)) in
    record { second_byte = λ l. one; third_byte = λ l. two; fourth_byte = λ l. absurd (omega arith) })
    (λ h. let k = char _ h.6 in cc) (λ h. let k = char _ h.6 in cc)
    (λ h.
    let one : IsInside bs 1 = (omega arith, grind (arith, nat_tests), grind (arith, nat_tests)) in
    let two : IsInside bs 2 = (omega arith, grind (arith, nat_tests), grind (arith, nat_tests)) in
    let three : IsInside bs 3 = (omega arith, grind (arith, nat_tests), grind (arith, nat_tests)) in
    record { second_byte = λ l. one; third_byte = λ l. two; fourth_byte = λ l. three })

-- no character begins inside one
none_inside : (bs : List ℕ) (k : ℕ) → IsInside bs k → (decoded (drop k bs)).char ≡ None
none_inside bs k at =
    let rest = drop k bs in
    let plain : k + 0 ≡ k = omega arith in
    let first : slice_index rest 0 ≡ slice_index bs k = get_or-drop k bs 0 0 ∙ ap (slice_index bs) plain in
    let some : 0 < length rest = omega (arith, length-drop k bs) in
    ap (λ (p : Decoded). p.char) (value-2 (length rest) (slice_index rest 0) (slice_index rest 1) (slice_index rest 2) (slice_index rest 3) (some, omega arith, omega arith))

-- so no shorter character ends where one of n bytes does
no_shorter : (text : List ℕ) (at n m : ℕ) → n ≤ at → m < n → IsInside (drop (at - n) text) (n - m) → char_of_length_before m text at ≡ None
no_shorter text at n m le lt within =
    let places : (at - n) + (n - m) ≡ at - m = omega arith in
    let same : drop (n - m) (drop (at - n) text) ≡ drop (at - m) text = drop-drop (n - m) (at - n) text ∙ ap (λ (k : ℕ). drop k text) places in
    found_none (decoded (drop (at - m) text)) m at (ap (λ (bs : List ℕ). (decoded bs).char) (sym same) ∙ none_inside (drop (at - n) text) (n - m) within)

-- the try of its length finds a character
found_of_length : (n c : ℕ) (text : List ℕ) (at : ℕ) → n ≤ at → decoded (drop (at - n) text) ≡ good c n → char_of_length_before n text at ≡ Some c
found_of_length n c text at le is =
    found_from (decoded (drop (at - n) text)) n at c le (ap (λ (p : Decoded). p.size) is) (ap (λ (p : Decoded). p.char) is)

-- the tries of the four lengths, where the first, the second, the third or the last finds it
first_try : (o p q r : Option ℕ) (c : ℕ) → o ≡ Some c → option_or o (option_or p (option_or q r)) ≡ Some c
first_try o p q r c is = rw is refl

second_try : (o p q r : Option ℕ) (c : ℕ) → o ≡ None → p ≡ Some c → option_or o (option_or p (option_or q r)) ≡ Some c
second_try o p q r c no_one is = rw (no_one, is) refl

third_try : (o p q r : Option ℕ) (c : ℕ) → o ≡ None → p ≡ None → q ≡ Some c → option_or o (option_or p (option_or q r)) ≡ Some c
third_try o p q r c no_one no_two is = rw (no_one, no_two, is) refl

last_try : (o p q r : Option ℕ) (c : ℕ) → o ≡ None → p ≡ None → q ≡ None → r ≡ Some c → option_or o (option_or p (option_or q r)) ≡ Some c
last_try o p q r c no_one no_two no_three is = rw (no_one, no_two, no_three, is) refl

-- a character of n bytes stands before a place
abbrev pub Stands : ℕ → ℕ → List ℕ → ℕ → Type 0
Stands c n text at = (n ≤ at) × (decoded (drop (at - n) text) ≡ good c n)

-- and is found there
abbrev pub IsFound : ℕ → List ℕ → ℕ → ℕ → Type 0
IsFound c text at n = Stands c n text at → char_before text at ≡ Some c

module _ (c : ℕ) (text : List ℕ) (at : ℕ) where
  -- the try of one length
  abbrev tried : ℕ → Option ℕ
  tried n = char_of_length_before n text at

  found_1 : IsFound c text at 1
  unfolding char_before
  found_1 stands = first_try (tried 1) (tried 2) (tried 3) (tried 4) c (found_of_length 1 c text at stands.0 stands.1)

  found_2 : IsFound c text at 2
  unfolding char_before
  found_2 stands =
      let bytes = inside (drop (at - 2) text) c 2 stands.1 in
      second_try (tried 1) (tried 2) (tried 3) (tried 4) c
      (no_shorter text at 2 1 stands.0 (omega arith) (bytes.second_byte (omega arith)))
      (found_of_length 2 c text at stands.0 stands.1)

  found_3 : IsFound c text at 3
  unfolding char_before
  found_3 stands =
      let bytes = inside (drop (at - 3) text) c 3 stands.1 in
      third_try (tried 1) (tried 2) (tried 3) (tried 4) c
      (no_shorter text at 3 1 stands.0 (omega arith) (bytes.third_byte (omega arith)))
      (no_shorter text at 3 2 stands.0 (omega arith) (bytes.second_byte (omega arith)))
      (found_of_length 3 c text at stands.0 stands.1)

  found_4 : IsFound c text at 4
  unfolding char_before
  found_4 stands =
      let bytes = inside (drop (at - 4) text) c 4 stands.1 in
      last_try (tried 1) (tried 2) (tried 3) (tried 4) c
      (no_shorter text at 4 1 stands.0 (omega arith) (bytes.fourth_byte (omega arith)))
      (no_shorter text at 4 2 stands.0 (omega arith) (bytes.third_byte (omega arith)))
      (no_shorter text at 4 3 stands.0 (omega arith) (bytes.second_byte (omega arith)))
      (found_of_length 4 c text at stands.0 stands.1)

  -- whichever length it has
  found_any : (n : ℕ) → 1 ≤ n → n ≤ 4 → IsFound c text at n
  found_any zero low high = absurd (omega arith)
  found_any (suc zero) low high = found_1
  found_any (suc (suc zero)) low high = found_2
  found_any (suc (suc (suc zero))) low high = found_3
  found_any (suc (suc (suc (suc zero)))) low high = found_4
  found_any (suc (suc (suc (suc (suc n))))) low high = absurd (omega arith)

  -- the UTF-8 that ends at a place is found
  char_before_from : at ≤ length text → EndsAt c text at → char_before text at ≡ Some c
  char_before_from le ends =
      let own = encode_utf8 c in
      let front = ends.1.0 in
      let rest = drop at text in
      let place : at - length own ≡ length front = omega (arith, length-take-le at text le, ap length ends.1.1, length-append front own) in
      let within : length own ≤ at = omega (arith, length-take-le at text le, ap length ends.1.1, length-append front own) in
      let whole : text ≡ front ++ (own ++ rest) = sym (take-append-drop at text) ∙ ap (λ bs. bs ++ rest) ends.1.1 ∙ append_assoc front own rest in
      let left : drop (at - length own) text ≡ own ++ rest =
      ap (λ (k : ℕ). drop k text) place ∙ ap (drop (length front)) whole ∙ drop-append_seam front (own ++ rest) in
      found_any (length own) (omega (arith, length-encode c, len_utf8_bounds c)) (omega (arith, length-encode c, len_utf8_bounds c))
      (within, ap decoded left ∙ decoded-encode c rest ends.0)

  -- the character before a place is the one whose UTF-8 ends there
  pub char_before_is : at ≤ length text → (char_before text at ≡ Some c) ↔ EndsAt c text at
  char_before_is le = (char_before_ends c text at, char_before_from le)
