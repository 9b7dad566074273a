-- Characters by their octal numbers.
use Rattle.std.proofs.Common.{◌≡◌, ◌<◌, ◌≤◌, ℕ, ◌+◌, ◌*◌, true, false, List, [], ◌∷◌, ◌++◌, ◌&&◌, not, nat_le, nat_lt, length, drop, get_or, Some, refl, sym, ap, ◌∙◌, true≢false, arith}
use Rattle.std.specs.Char.{digit_value}
use Rattle.std.proofs.lemmas.Bool.{and_parts, and_from}
use Rattle.pattern_syntax.specs.declared.flags.Flags.{Flags}
use Rattle.pattern_syntax.specs.declared.readings.Member.TheVariants.{Character}
use Rattle.pattern_syntax.specs.Flags.{is_nil}
use Rattle.pattern_syntax.specs.Atom.{Atom, octal, write_atom, FineAtom, is_octal_digit, octal_next}
use Rattle.pattern_syntax.specs.Readers.{EscapeAt}
use Rattle.pattern_syntax.specs.Escapes.{IsEscapeLetter, OctalDigitAt, IsOctal}
use Rattle.pattern_syntax.proofs.BlanksLemmas.{head, tail, cut_at}
use Rattle.std.specs.List.{list_all}
use Rattle.std.specs.Str.Parse.{digits_value}

after_slash : (text : List ℕ) (at letter : ℕ) → IsEscapeLetter text at letter → drop at text ≡ 92 ∷ drop (at + 1) text
after_slash text at letter e =
    let within : at < length text = omega (arith, e.0) in
    let cut : drop at text ≡ get_or text at 0 ∷ drop (at + 1) text = cut_at text at 0 within in cut ∙ ap (λ z. z ∷ drop (at + 1) text) (ap head (sym cut ∙ e.1))

octal_fine : (k : Flags) (ds t : List ℕ) → k.octal ≡ true → not (is_nil ds) ≡ true → nat_le (length ds) 3 ≡ true → list_all is_octal_digit ds ≡ true
    → not (nat_lt (length ds) 3 && octal_next t) ≡ true → FineAtom k (octal ds) t
octal_fine k ds t o n l a e =
    and_from (k.octal && not (is_nil ds) && nat_le (length ds) 3 && list_all is_octal_digit ds) (not (nat_lt (length ds) 3 && octal_next t))
    (and_from (k.octal && not (is_nil ds) && nat_le (length ds) 3) (list_all is_octal_digit ds)
    (and_from (k.octal && not (is_nil ds)) (nat_le (length ds) 3) (and_from k.octal (not (is_nil ds)) o n) l) a) e

octal_at : (k : Flags) (text : List ℕ) (at letter next value : ℕ) (ds : List ℕ) → IsEscapeLetter text at letter → at < next → next ≤ length text
    → drop (at + 1) text ≡ ds ++ drop next text → FineAtom k (octal ds) (drop next text) → digits_value 8 ds ≡ value
    → EscapeAt k text at (Character value) next
octal_at k text at letter next value ds e past within w f n = record {
  atom = octal ds;
  escapes = tt;
  goes_on = (past, within);
  written = after_slash text at letter e ∙ ap (λ z. 92 ∷ z) w;
  fine = f;
  is = (ap Some n, refl, ap (λ z. nat_lt z 128) n);
}

one_value : (v a : ℕ) → v ≡ a → 0 * 8 + a ≡ v
one_value v a p = omega arith

two_values : (v w a b : ℕ) → v ≡ a → w ≡ b → (0 * 8 + a) * 8 + b ≡ v * 8 + w
two_values v w a b p q = omega arith

three_values : (v w x a b c : ℕ) → v ≡ a → w ≡ b → x ≡ c → ((0 * 8 + a) * 8 + b) * 8 + c ≡ (v * 8 + w) * 8 + x
three_values v w x a b c p q r = omega arith

-- the digit, and what follows it
here_at : (text : List ℕ) (at next value : ℕ) (d : OctalDigitAt text at value) → at + 1 ≡ next → drop at text ≡ d.digit ∷ drop next text
here_at text at next value d e = d.here ∙ ap (λ n. d.digit ∷ drop n text) e

pub octal_one : (k : Flags) (text : List ℕ) (at letter v : ℕ) → IsEscapeLetter text at letter → k.octal ≡ true → OctalDigitAt text (at + 1) v
    → octal_next (drop (at + 2) text) ≡ false → EscapeAt k text at (Character v) (at + 2)
octal_one k text at letter v e o d none =
    let next : (at + 1) + 1 ≡ at + 2 = omega arith in
    octal_at k text at letter (at + 2) v (d.digit ∷ []) e (omega arith) e.0
    (here_at text (at + 1) (at + 2) v d next)
    (octal_fine k (d.digit ∷ []) (drop (at + 2) text) o refl refl (and_from (is_octal_digit d.digit) true d.octal refl) (ap (λ z. not z) none))
    (one_value v (digit_value d.digit) d.valued)

pub octal_two : (k : Flags) (text : List ℕ) (at letter v w : ℕ) → IsEscapeLetter text at letter → k.octal ≡ true → OctalDigitAt text (at + 1) v
    → OctalDigitAt text (at + 2) w → octal_next (drop (at + 3) text) ≡ false → EscapeAt k text at (Character (v * 8 + w)) (at + 3)
octal_two k text at letter v w e o d c none =
    let next : (at + 1) + 1 ≡ at + 2 = omega arith in
    let last : (at + 2) + 1 ≡ at + 3 = omega arith in
    octal_at k text at letter (at + 3) (v * 8 + w) (d.digit ∷ c.digit ∷ []) e (omega arith) (omega (arith, c.within))
    (here_at text (at + 1) (at + 2) v d next ∙ ap (λ z. d.digit ∷ z) (here_at text (at + 2) (at + 3) w c last))
    (octal_fine k (d.digit ∷ c.digit ∷ []) (drop (at + 3) text) o refl refl
    (and_from (is_octal_digit d.digit) (list_all is_octal_digit (c.digit ∷ [])) d.octal (and_from (is_octal_digit c.digit) true c.octal refl)) (ap (λ z. not z) none))
    (two_values v w (digit_value d.digit) (digit_value c.digit) d.valued c.valued)

pub octal_three : (k : Flags) (text : List ℕ) (at letter v w x : ℕ) → IsEscapeLetter text at letter → k.octal ≡ true → OctalDigitAt text (at + 1) v
    → OctalDigitAt text (at + 2) w → OctalDigitAt text (at + 3) x → EscapeAt k text at (Character ((v * 8 + w) * 8 + x)) (at + 4)
octal_three k text at letter v w x e o d c b =
    let next : (at + 1) + 1 ≡ at + 2 = omega arith in
    let more : (at + 2) + 1 ≡ at + 3 = omega arith in
    let last : (at + 3) + 1 ≡ at + 4 = omega arith in
    octal_at k text at letter (at + 4) ((v * 8 + w) * 8 + x) (d.digit ∷ c.digit ∷ b.digit ∷ []) e (omega arith) (omega (arith, b.within))
    (here_at text (at + 1) (at + 2) v d next
    ∙ ap (λ z. d.digit ∷ z) (here_at text (at + 2) (at + 3) w c more ∙ ap (λ z. c.digit ∷ z) (here_at text (at + 3) (at + 4) x b last)))
    (octal_fine k (d.digit ∷ c.digit ∷ b.digit ∷ []) (drop (at + 4) text) o refl refl
    (and_from (is_octal_digit d.digit) (list_all is_octal_digit (c.digit ∷ b.digit ∷ [])) d.octal
    (and_from (is_octal_digit c.digit) (list_all is_octal_digit (b.digit ∷ [])) c.octal (and_from (is_octal_digit b.digit) true b.octal refl))) refl)
    (three_values v w x (digit_value d.digit) (digit_value c.digit) (digit_value b.digit) d.valued c.valued b.valued)

octal_parts : (k : Flags) (ds t : List ℕ) → FineAtom k (octal ds) t → (k.octal ≡ true) × (not (is_nil ds) ≡ true) × (list_all is_octal_digit ds ≡ true)
octal_parts k ds t f =
    let a = and_parts (k.octal && not (is_nil ds) && nat_le (length ds) 3 && list_all is_octal_digit ds) (not (nat_lt (length ds) 3 && octal_next t)) f in
    let b = and_parts (k.octal && not (is_nil ds) && nat_le (length ds) 3) (list_all is_octal_digit ds) a.0 in
    let c = and_parts (k.octal && not (is_nil ds)) (nat_le (length ds) 3) b.0 in
    let d = and_parts k.octal (not (is_nil ds)) c.0 in (d.0, d.1, b.1)

pub no_octal : (k : Flags) (text : List ℕ) (at letter : ℕ) → IsEscapeLetter text at letter → (k.octal ≡ true → octal_next (drop (at + 1) text) ≡ false)
    → (a : Atom) (t : List ℕ) → IsOctal a → drop at text ≡ write_atom a t → FineAtom k a t → ⊥
no_octal k text at letter e none (octal []) t i q f = true≢false (sym (octal_parts k [] t f).1)
no_octal k text at letter e none (octal (d ∷ ds)) t i q f =
    let parts = octal_parts k (d ∷ ds) t f in
    let there : drop (at + 1) text ≡ d ∷ (ds ++ t) = ap tail (sym (after_slash text at letter e) ∙ q) in
    true≢false (sym (and_parts (is_octal_digit d) (list_all is_octal_digit ds) parts.2).0 ∙ sym (ap octal_next there) ∙ none parts.0)
no_octal k text at letter e none _ t i q f = absurd i
