-- Characters by the numbers that digits spell.
use Rattle.std.proofs.Common.{◌≡◌, ◌≢◌, ◌<◌, ◌≤◌, ℕ, suc, ◌+◌, ◌*◌, Bool, true, false, List, [], ◌∷◌, ◌==◌, ◌||◌, ◌&&◌, not, nat_lt, if◌then◌else◌, length, drop, get_or, Some, encode_utf8, refl, sym, ap, ◌∙◌, subst, true≢false, eqb-true, eq-eqb, arith}
use Rattle.std.specs.Char.{is_digit, digit_value}
use Rattle.std.proofs.lemmas.Bool.{and_parts, and_from}
use Rattle.std.proofs.lemmas.Bool.Decides.{nat_tests}
use Rattle.pattern_syntax.specs.declared.flags.Flags.{Flags}
use Rattle.pattern_syntax.specs.declared.readings.Member.{Member}
use Rattle.pattern_syntax.specs.declared.readings.Member.TheVariants.{Character, HexByte}
use Rattle.pattern_syntax.specs.Flags.{has, is_nil}
use Rattle.pattern_syntax.specs.Sets.{is_scalar}
use Rattle.pattern_syntax.specs.Atom.{Atom, coded, braced, Digit, write_digits, write_atom, FineAtom, spelt, are_hex, number, coded_length}
use Rattle.pattern_syntax.specs.Readers.{EscapeAt, IsMember}
use Rattle.pattern_syntax.specs.Escapes.{IsEscapeLetter, Spells, SpelledAt, BracesAt, in_braces, spelled_number, are_code, IsCoded, IsBraced}
use Rattle.pattern_syntax.proofs.BlanksLemmas.{head, tail, cut_at}
use Rattle.pattern_syntax.proofs.spelling.SpellingLemmas.{spelled_on, spells_digits, spells_braces, spells_same, braces_same, digits_spell, braces_spell}
use Rattle.pattern_syntax.proofs.spelling.PlainLemmas.{hex_clear, hex_inner}
use Rattle.std.specs.List.{list_all}

abbrev is_hex : ℕ → Bool
is_hex d = is_digit d 16

number_spelt : (high : ℕ) (ds : List Digit) → number 16 high ds ≡ spelled_number high (spelt ds)
number_spelt high [] = refl
number_spelt high (d ∷ ds) = number_spelt (high * 16 + digit_value d.digit) ds

nil_spelt : (ds : List Digit) → is_nil (spelt ds) ≡ is_nil ds
nil_spelt [] = refl
nil_spelt (d ∷ ds) = refl

length_spelt : (ds : List Digit) → length (spelt ds) ≡ length ds
length_spelt [] = refl
length_spelt (d ∷ ds) = ap suc (length_spelt ds)

-- ---- the tests of such an escape

abbrev code_test : Bool → List Digit → Bool
code_test m ds = not (is_nil ds) && m && are_hex ds && is_scalar (number 16 0 ds)

code_parts : (cs : List ℕ) → are_code cs ≡ true → (is_nil cs ≡ false) × (list_all is_hex cs ≡ true) × (is_scalar (spelled_number 0 cs) ≡ true)
code_parts [] h = absurd (true≢false (sym h))
code_parts (c ∷ cs) h =
    let outer = and_parts (true && list_all is_hex (c ∷ cs)) (is_scalar (spelled_number 0 (c ∷ cs))) h in (refl, (and_parts true (list_all is_hex (c ∷ cs)) outer.0).1, outer.1)

code_tested : (m : Bool) (ds : List Digit) (cs : List ℕ) → m ≡ true → spelt ds ≡ cs → are_code cs ≡ true → code_test m ds ≡ true
code_tested m ds cs e s h =
    let parts = code_parts cs h in
    let hexes : are_hex ds ≡ true = ap (list_all is_hex) s ∙ parts.1 in
    let filled : not (is_nil ds) ≡ true = ap not (sym (nil_spelt ds) ∙ ap (λ (z : List ℕ). is_nil z) s ∙ parts.0) in
    let scalar : is_scalar (number 16 0 ds) ≡ true = ap is_scalar (number_spelt 0 ds ∙ ap (spelled_number 0) s) ∙ parts.2 in
    and_from (not (is_nil ds) && m && are_hex ds) (is_scalar (number 16 0 ds))
    (and_from (not (is_nil ds) && m) (are_hex ds) (and_from (not (is_nil ds)) m filled e) hexes) scalar

code_back : (m : Bool) (ds : List Digit) → code_test m ds ≡ true → (m ≡ true) × (are_code (spelt ds) ≡ true)
code_back m ds h =
    let outer = and_parts (not (is_nil ds) && m && are_hex ds) (is_scalar (number 16 0 ds)) h in
    let inner = and_parts (not (is_nil ds) && m) (are_hex ds) outer.0 in
    let first = and_parts (not (is_nil ds)) m inner.0 in (
      first.1,
      and_from (not (is_nil (spelt ds)) && list_all is_hex (spelt ds)) (is_scalar (spelled_number 0 (spelt ds)))
          (and_from (not (is_nil (spelt ds))) (list_all is_hex (spelt ds)) (ap not (nil_spelt ds) ∙ first.0) inner.1) (ap is_scalar (sym (number_spelt 0 ds)) ∙ outer.1),
    )

-- ---- two digits are a byte

below_16 : (x : ℕ) → nat_lt x 16 ≡ true → x < 16
below_16 x h = grind (arith, nat_tests)

two_digits : (x y : ℕ) → x < 16 → y < 16 → (0 * 16 + x) * 16 + y < 256
two_digits x y p q = omega arith

pub small_code : (cs : List ℕ) → length cs ≡ 2 → are_code cs ≡ true → spelled_number 0 cs < 256
small_code [] n h = absurd (omega arith)
small_code (a ∷ []) n h = absurd (omega arith)
small_code (a ∷ b ∷ []) n h =
    let hexes = and_parts (is_hex a) (list_all is_hex (b ∷ [])) (code_parts (a ∷ b ∷ []) h).1 in
    two_digits (digit_value a) (digit_value b) (below_16 (digit_value a) hexes.0) (below_16 (digit_value b) (and_parts (is_hex b) true hexes.1).0)
small_code (a ∷ b ∷ c ∷ cs) n h = absurd (omega arith)

-- ---- digits without braces

abbrev bytes_if : Bool → Bool → ℕ → List ℕ
bytes_if x u c = if x && not u then c ∷ [] else encode_utf8 c

swapped : (u : Bool) (x y : List ℕ) → (if true && not u then x else y) ≡ (if u then y else x)
swapped true x y = refl
swapped false x y = refl

abbrev pub member_if : Bool → ℕ → Member
member_if b c = if b then HexByte c else Character c

coded_is : (k : Flags) (letter c : ℕ) (ds : List Digit) (b : Bool) → (letter == 120) ≡ b → number 16 0 ds ≡ c → IsMember k (coded letter ds) (member_if b c)
coded_is k letter c ds true e n = (
  ap Some n,
  ap (λ z. bytes_if z k.unicode c) e ∙ swapped k.unicode (c ∷ []) (encode_utf8 c),
  ap (λ z. z || nat_lt (number 16 0 ds) 128) e,
)
coded_is k letter c ds false e n = (
  ap Some n,
  ap (λ z. bytes_if z k.unicode c) e,
  ap (λ z. z || nat_lt (number 16 0 ds) 128) e ∙ ap (λ z. nat_lt z 128) n,
)

pub code_at : (k : Flags) (text : List ℕ) (at letter count next c : ℕ) (cs : List ℕ) → IsEscapeLetter text at letter → count ≡ coded_length letter
    → SpelledAt k text (at + 2) count cs next → are_code cs ≡ true → spelled_number 0 cs ≡ c → EscapeAt k text at (member_if (letter == 120) c) next
code_at k text at letter count next c cs e m s h n =
    let d = spells_digits k cs (drop (at + 2) text) (drop next text) s.spelled in
    let past : at + 2 ≤ next = spelled_on k text cs (at + 2) next e.0 s.within s.spelled in
    let many : length d.0 ≡ coded_length letter = sym (length_spelt d.0) ∙ ap length d.1 ∙ s.counted ∙ m in record {
      atom = coded letter d.0;
      escapes = tt;
      goes_on = (omega arith, s.within);
      written = e.1 ∙ ap (λ z. 92 ∷ letter ∷ z) d.3;
      fine = (d.2, code_tested (length d.0 == coded_length letter) d.0 cs (eq-eqb (length d.0) (coded_length letter) many) d.1 h);
      is = coded_is k letter c d.0 (letter == 120) refl (number_spelt 0 d.0 ∙ ap (spelled_number 0) d.1 ∙ n);
    }

pub no_code : (k : Flags) (letter count : ℕ) (w v : List ℕ) → w ≡ 92 ∷ letter ∷ v → count ≡ coded_length letter
    → ((cs t : List ℕ) → length cs ≡ count → are_code cs ≡ true → Spells k cs v t → ⊥)
    → (a : Atom) (t : List ℕ) → IsCoded a → w ≡ write_atom a t → FineAtom k a t → ⊥
no_code k letter count w v e m none (coded l ds) t i q f =
    let h = code_back (length ds == coded_length l) ds f.1 in
    let same : l ≡ letter = ap (λ z. head (tail z)) (sym q ∙ e) in
    let there : write_digits ds t ≡ v = ap (λ z. tail (tail z)) (sym q ∙ e) in
    none (spelt ds) t (length_spelt ds ∙ eqb-true (length ds) (coded_length l) h.0 ∙ ap coded_length same ∙ sym m) h.1
    (subst (λ z. Spells k (spelt ds) z t) there (digits_spell k ds t (hex_clear (spelt ds) (code_parts (spelt ds) h.1).1) f.0))
no_code k letter count w v e m none _ t i q f = absurd i

pub other_code : (k : Flags) (text : List ℕ) (at count next : ℕ) (ds : List ℕ) → SpelledAt k text at count ds next → are_code ds ≡ false
    → (cs t : List ℕ) → length cs ≡ count → are_code cs ≡ true → Spells k cs (drop at text) t → ⊥
other_code k text at count next ds s none cs t n h r =
    true≢false (sym h ∙ ap are_code (spells_same k cs ds (drop at text) t (drop next text) r s.spelled (n ∙ sym s.counted)) ∙ none)

-- ---- digits in braces

pub braced_code_at : (k : Flags) (text : List ℕ) (at letter next c : ℕ) (cs : List ℕ) → IsEscapeLetter text at letter → nat_lt 0 (coded_length letter) ≡ true
    → BracesAt k text (at + 2) cs next → are_code cs ≡ true → spelled_number 0 cs ≡ c → EscapeAt k text at (Character c) next
braced_code_at k text at letter next c cs e m s h n =
    let b = spells_braces k cs (drop (at + 2) text) (drop next text) s.spelled in
    let past : at + 2 ≤ next = spelled_on k text (in_braces cs) (at + 2) next e.0 s.within s.spelled in
    let spells : number 16 0 b.1 ≡ c = number_spelt 0 b.1 ∙ ap (spelled_number 0) b.3 ∙ n in record {
      atom = braced letter b.0 b.1 b.2;
      escapes = tt;
      goes_on = (omega arith, s.within);
      written = e.1 ∙ ap (λ z. 92 ∷ letter ∷ z) b.5;
      fine = (b.4, code_tested (nat_lt 0 (coded_length letter)) b.1 cs m b.3 h);
      is = (ap Some spells, refl, ap (λ z. nat_lt z 128) spells);
    }

pub no_braced_code : (k : Flags) (letter : ℕ) (w v : List ℕ) → w ≡ 92 ∷ letter ∷ v
    → ((cs t : List ℕ) → nat_lt 0 (coded_length letter) ≡ true → has 125 cs ≡ false → are_code cs ≡ true → Spells k (in_braces cs) v t → ⊥)
    → (a : Atom) (t : List ℕ) → IsBraced a → w ≡ write_atom a t → FineAtom k a t → ⊥
no_braced_code k letter w v e none (braced l before ds behind) t i q f =
    let h = code_back (nat_lt 0 (coded_length l)) ds f.1 in
    let same : l ≡ letter = ap (λ z. head (tail z)) (sym q ∙ e) in
    let hexes = (code_parts (spelt ds) h.1).1 in
    none (spelt ds) t (ap (λ z. nat_lt 0 (coded_length z)) (sym same) ∙ h.0) (hex_inner (spelt ds) hexes) h.1
    (subst (λ z. Spells k (in_braces (spelt ds)) z t) (ap (λ z. tail (tail z)) (sym q ∙ e)) (braces_spell k before ds behind t (hex_clear (spelt ds) hexes) f.0))
no_braced_code k letter w v e none _ t i q f = absurd i

pub other_braced_code : (k : Flags) (text : List ℕ) (at next : ℕ) (ds : List ℕ) → BracesAt k text at ds next → are_code ds ≡ false
    → (cs t : List ℕ) → has 125 cs ≡ false → are_code cs ≡ true → Spells k (in_braces cs) (drop at text) t → ⊥
other_braced_code k text at next ds s none cs t inner h r =
    true≢false (sym h ∙ ap are_code (braces_same k cs ds (drop at text) t (drop next text) inner s.inner r s.spelled) ∙ none)

positive : (n : ℕ) → n ≢ 0 → nat_lt 0 n ≡ true
positive n h = grind (arith, nat_tests)

pub has_length : (letter count : ℕ) → count ≡ coded_length letter → count ≢ 0 → nat_lt 0 (coded_length letter) ≡ true
has_length letter count e z = ap (λ n. nat_lt 0 n) (sym e) ∙ positive count z

-- ---- the number of digits

grows_by : (n v m : ℕ) → n * 16 + v ≤ m → n ≤ m
grows_by n v m h = omega arith

number_grows : (n : ℕ) (cs : List ℕ) → n ≤ spelled_number n cs
number_grows n [] = omega arith
number_grows n (c ∷ cs) = grows_by n (digit_value c) (spelled_number n (c ∷ cs)) (number_grows (n * 16 + digit_value c) cs)

past_scalars : (n : ℕ) → 0x10FFFF < n → is_scalar n ≡ false
past_scalars n h = grind (arith, nat_tests)

third_fails : (a b c : Bool) → c ≡ false → (a && b && c) ≡ false
third_fails true true c h = h
third_fails true false c h = refl
third_fails false b c h = refl

pub too_great : (ds cs : List ℕ) (n : ℕ) → spelled_number n cs ≡ spelled_number 0 ds → 0x10FFFF < n → are_code ds ≡ false
too_great ds cs n e h =
    let more = number_grows n cs in
    let past : 0x10FFFF < spelled_number 0 ds = omega arith in
    third_fails (not (is_nil ds)) (list_all is_hex ds) (is_scalar (spelled_number 0 ds)) (past_scalars (spelled_number 0 ds) past)

-- what is left of the digits
abbrev pub all_hex : List ℕ → Bool
all_hex cs = list_all is_hex cs

pub number_on : (ds : List ℕ) (i d n m : ℕ) → i < length ds → m ≡ n * 16 + digit_value (get_or ds i d) → spelled_number n (drop i ds) ≡ spelled_number 0 ds
    → spelled_number m (drop (i + 1) ds) ≡ spelled_number 0 ds
number_on ds i d n m lt h e =
    ap (λ z. spelled_number z (drop (i + 1) ds)) h ∙ sym (ap (spelled_number n) (cut_at ds i d lt)) ∙ e
