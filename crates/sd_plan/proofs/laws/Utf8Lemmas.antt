-- The text of a plan is UTF-8.
use Rattle.std.proofs.Common.{◌≡◌, ℕ, zero, suc, ◌/◌, ◌%◌, ◌<◌, Bool, true, false, cond, List, [], ◌∷◌, ◌++◌, length, refl, sym, subst, arith, ltb-true}
use Rattle.std.specs.Prelude.{◌==◌, ◌&&◌, nat_lt, codes, decimal}
use Rattle.std.proofs.lemmas.Bool.{and_parts}
use Rattle.std.specs.Fmt.{digits, digits_onto, digit_glyph}
use Rattle.std.specs.List.{AllByRecursion}
use Rattle.std.specs.Str.{IsUtf8, IsAscii}
use Rattle.std.proofs.lemmas.Str.{IsUtf8-append, IsUtf8-nil, IsUtf8-from_ascii}
use Rattle.std.proofs.lemmas.Str.Ascii.{IsAscii-cons, IsAscii-nil}
use Rattle.hex.specs.Hex.{lower_digits}
use Rattle.hex.proofs.HexLemmas.{IsAscii-encode_with}
use Rattle.sd_plan.specs.Digest.{digits_of}
use Rattle.sd_plan.specs.Report.{report_text}
use Rattle.sd_plan.specs.Plan.{IsPlanLine, IsTextOf, mark_of, line_text, lines_text, report_of, changed_in, replaced_in}
use Rattle.sd_plan.specs.declared.line.PlanLine.{PlanLine}
use Rattle.sd_plan.proofs.escaping.EscapeLemmas.{escaped_text}
use Rattle.sd_plan.proofs.reading.LineLemmas.{line_parted}
use Rattle.sd_plan.proofs.reading.TextLemmas.{lines_text-cons, lines_text-nil, text_parts}

pub one_byte : (byte : ℕ) → byte < 128 → IsUtf8 (byte ∷ [])
one_byte byte low = IsUtf8-from_ascii (byte ∷ []) (IsAscii-cons byte [] low IsAscii-nil)

-- a byte in front
pub front_byte : (byte : ℕ) (text : List ℕ) → byte < 128 → IsUtf8 text → IsUtf8 (byte ∷ text)
front_byte byte text low is = IsUtf8-append (byte ∷ []) text (one_byte byte low) is

either : {A : Type 0} (P : A → Type 0) (b : Bool) (x y : A) → P x → P y → P (cond b x y)
either P true x y p q = p
either P false x y p q = q

glyph_low : (d : ℕ) → d < 10 → digit_glyph false d < 128
glyph_low d low = grind arith

onto_text : (k n : ℕ) (after : List ℕ) → IsUtf8 after → IsUtf8 (digits_onto k 10 false n after)
onto_text zero n after is = is
onto_text (suc k) n after is =
    let one : IsUtf8 (digit_glyph false (n % 10) ∷ after) = front_byte (digit_glyph false (n % 10)) after (glyph_low (n % 10) (omega arith)) is in
    either IsUtf8 (n / 10 == 0) _ _ one (onto_text k (n / 10) (digit_glyph false (n % 10) ∷ after) one)

pub decimal_text : (n : ℕ) → IsUtf8 (decimal n)
unfolding digits
decimal_text n = onto_text 64 n [] IsUtf8-nil

unfoldable pub are_low : List ℕ → Bool
are_low [] = true
are_low (b ∷ text) = nat_lt b 128 && are_low text

-- by a test that computes
ascii_by_test : (text : List ℕ) → are_low text ≡ true → IsAscii text
unfolding are_low
ascii_by_test [] h = IsAscii-nil
ascii_by_test (b ∷ text) h =
    let parts = and_parts (nat_lt b 128) (are_low text) h in
    IsAscii-cons b text (ltb-true b 128 parts.0) (ascii_by_test text parts.1)

pub words_text : (text : List ℕ) → are_low text ≡ true → IsUtf8 text
words_text text low = IsUtf8-from_ascii text (ascii_by_test text low)

mark_text : (changed : Bool) → IsUtf8 (mark_of changed ∷ [])
mark_text true = one_byte 43 (omega arith)
mark_text false = one_byte 61 (omega arith)

pub digits_text : (digest : List ℕ) → IsUtf8 (digits_of digest)
unfolding are_low
digits_text digest = IsUtf8-from_ascii (digits_of digest) (IsAscii-encode_with lower_digits digest (ascii_by_test lower_digits refl))

line_is_text : (line : PlanLine) → IsPlanLine line → IsUtf8 (line_text line)
line_is_text line is = subst IsUtf8 (sym (line_parted line))
    (joined (digits_of line.before) _ (digits_text line.before) (joined (digits_of line.after) _ (digits_text line.after)
    (joined (mark_of line.changed ∷ []) _ (mark_text line.changed) (joined (decimal line.replaced) _ (decimal_text line.replaced) (escaped_text line.path is.path_text)))))
  where
    joined : (a b : List ℕ) → IsUtf8 a → IsUtf8 b → IsUtf8 (a ++ 32 ∷ b)
    joined a b p q = IsUtf8-append a (32 ∷ b) p (front_byte 32 b (omega arith) q)

lines_are_text : (lines : List PlanLine) (rest : List ℕ) → AllByRecursion IsPlanLine lines → IsUtf8 rest → IsUtf8 (lines_text lines ++ rest)
lines_are_text [] rest each is = subst (λ (l : List ℕ). IsUtf8 (l ++ rest)) (sym lines_text-nil) is
lines_are_text (line ∷ lines) rest each is = subst IsUtf8 (sym (lines_text-cons line lines rest))
    (IsUtf8-append (line_text line) (10 ∷ (lines_text lines ++ rest)) (line_is_text line each.0) (front_byte 10 _ (omega arith) (lines_are_text lines rest each.1 is)))

report_is_text : (x y z : ℕ) → IsUtf8 (report_text x y z)
unfolding report_text are_low
report_is_text x y z =
    IsUtf8-append _ (codes "\n") (IsUtf8-append _ (decimal z) (IsUtf8-append _ (codes ", replaced ") (IsUtf8-append _ (decimal y) (IsUtf8-append _ (codes ", changed ")
    (IsUtf8-append (codes "chosen ") (decimal x) (words_text _ refl) (decimal_text x)) (words_text _ refl)) (decimal_text y)) (words_text _ refl)) (decimal_text z)) (words_text _ refl)

pub plan_text : (text : List ℕ) (lines : List PlanLine) → IsTextOf text lines → IsUtf8 text
unfolding are_low
plan_text text lines is = subst IsUtf8 (sym (is.text_is)) (subst IsUtf8 (sym (text_parts lines))
    (IsUtf8-append (codes "sd-plan 1\n") (lines_text lines ++ report_of lines) (words_text _ refl)
    (lines_are_text lines (report_of lines) is.is_plan.each (report_is_text (length lines) (changed_in lines) (replaced_in lines)))))
