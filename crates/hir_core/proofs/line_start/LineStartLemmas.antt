-- Where lines start, and what the pattern that asks for that alone finds.
use Rattle.std.proofs.Common.{◌≡◌, ℕ, ◌+◌, ◌-◌, ◌<◌, ◌≤◌, Bool, true, false, cond, List, [], ◌∷◌, length, map, take, drop, replicate, slice_index, Option, Some, None, refl, sym, ap, ◌∙◌, get_or-drop, length-drop, arith}
use Rattle.std.specs.Prelude.{◌==◌, ◌||◌, slice_get, slice_set, option_map}
use Rattle.std.proofs.lemmas.Bool.{false_from_ne_true}
use Rattle.std.proofs.lemmas.Bool.Decides.{nat_tests}
use Rattle.std.proofs.lemmas.List.{take_rest}
use Rattle.std.proofs.lemmas.Option.{slice_get-get_or}
use Rattle.memchr.specs.Find.{IsFirstByte, is_byte}
use Rattle.grep_matcher.specs.Span.{Span}
use Rattle.hir_tree.specs.Core as core
use Rattle.hir_tree.specs.Looks.{holds, is_newline}
use Rattle.hir_tree.specs.PlainText.{text_groups}
use Rattle.hir_tree.specs.Runs.{first, preferred, runs}
use Rattle.hir_tree.specs.declared.look.Look.TheVariants.{StartLF}
use Rattle.hir_tree.proofs.NumbersLemmas.{preferred-first}
use Rattle.hir_core.specs.Found.{IsOfLeast, span_of}
use Rattle.hir_core.specs.LineStarts.{line_start_at, line_start_found}
use Rattle.hir_core.proofs.FoundLemmas.{cond-map, IsOfLeast-map}
use Rattle.hir_core.proofs.plain.PlainTextLemmas.{whole-spans}

here : (text : List ℕ) (at : ℕ) → holds StartLF text at ≡ true → line_start_at text at ≡ Some at
here text at = ap (λ (b : Bool). cond b (Some at) None)

not_here : (text : List ℕ) (at : ℕ) → holds StartLF text at ≡ false → line_start_at text at ≡ None
not_here text at = ap (λ (b : Bool). cond b (Some at) None)

-- a line starts at the start of the text
starts_first : (text : List ℕ) → holds StartLF text 0 ≡ true
unfolding holds
starts_first text = refl

pub first_line : (text : List ℕ) → IsOfLeast (line_start_at text) 0 (length text) (Some 0)
first_line text = (0, omega arith, omega arith, here text 0 (starts_first text), (λ at low before. absurd (omega arith)))

-- elsewhere behind a newline
positive : (n : ℕ) → 0 < n → (n == 0) ≡ false
positive n some = grind (arith, nat_tests)

starts : (text : List ℕ) (k : ℕ) → k < length text → holds StartLF text (k + 1) ≡ (slice_index text k == 10)
unfolding holds
starts text k within =
    let back : k + 1 - 1 ≡ k = omega arith in
    ap (λ (first : Bool). first || is_newline (cond first None (slice_get text (k + 1 - 1)))) (positive (k + 1) (omega arith))
    ∙ ap (λ (n : ℕ). is_newline (slice_get text n)) back
    ∙ ap is_newline (slice_get-get_or text k 0 within)

-- the first newline of the rest from the byte before a place is before the least place, from that one on, where a line starts
module _ (text rest : List ℕ) (at : ℕ) (low : 0 < at) (within : at ≤ length text) (cut : rest ≡ take (length text - (at - 1)) (drop (at - 1) text)) where
  rest-is : rest ≡ drop (at - 1) text
  rest-is = cut ∙ take_rest text (at - 1)

  rest-length : length rest ≡ length text - (at - 1)
  rest-length = ap length rest-is ∙ length-drop (at - 1) text

  rest-byte : (p : ℕ) → at ≤ p → slice_index rest (p - at) ≡ slice_index text (p - 1)
  rest-byte p from =
      let there : at - 1 + (p - at) ≡ p - 1 = omega arith in
      ap (λ (l : List ℕ). slice_index l (p - at)) rest-is ∙ get_or-drop (at - 1) text (p - at) 0 ∙ ap (slice_index text) there

  starts_behind : (p : ℕ) → at ≤ p → p ≤ length text → holds StartLF text p ≡ (slice_index rest (p - at) == 10)
  starts_behind p from until =
      let there : p - 1 + 1 ≡ p = omega arith in
      ap (holds StartLF text) (sym there) ∙ starts text (p - 1) (omega arith) ∙ ap (λ (n : ℕ). n == 10) (sym (rest-byte p from))

  starts_not : (p : ℕ) → at ≤ p → p ≤ length text → ¬ ((slice_index rest (p - at) == 10) ≡ true) → line_start_at text p ≡ None
  starts_not p from until fails = not_here text p (starts_behind p from until ∙ false_from_ne_true (slice_index rest (p - at) == 10) fails)

  pub next_line : (r : Option ℕ) → IsFirstByte (is_byte 10) rest r → IsOfLeast (line_start_at text) at (length text) (option_map (λ k. at + k) r)
  next_line None none = λ p from until. starts_not p from until (none (p - at) (omega arith) (omega (arith, rest-length)))
  next_line (Some k) found =
      let e : at + k - at ≡ k = omega arith in
      let until : at + k ≤ length text = omega (arith, found.0.high, rest-length) in (
        at + k,
        omega arith,
        until,
        here text (at + k) (starts_behind (at + k) (omega arith) until ∙ ap (λ n. slice_index rest n == 10) e ∙ found.1),
        (λ p from before. starts_not p from (omega (arith, until)) (found.0.before (p - at) (omega arith) (omega arith))),
      )

-- the least place gives the groups of the least place
pub groups-least : (groups : ℕ) (text : List ℕ) (from to : ℕ) (r : Option ℕ) → IsOfLeast (line_start_at text) from to r
    → IsOfLeast (line_start_found groups text) from to (option_map (text_groups [] groups) r)
groups-least groups text from to r h =
    IsOfLeast-map (text_groups [] groups) (line_start_at text) (line_start_found groups text) from to r (λ at. cond-map (text_groups [] groups) at (holds StartLF text at)) h

-- those are the groups as slots hold them
pub empty-spans : (n place : ℕ) (slots : List (Option Span)) → 0 < n → slots ≡ slice_set (replicate n None) 0 (Some (record { start = place; end = place }))
    → slots ≡ map span_of (text_groups [] (n - 1) place)
empty-spans n place slots some set =
    let same : place ≡ place + 0 = omega arith in
    whole-spans [] [] n place slots some refl (set ∙ ap (λ (end : ℕ). slice_set (replicate n None) 0 (Some (record { start = place; end = end }))) same)

-- the pattern matches where a line starts, and takes no byte
pub line_start-matches : (groups : ℕ) (text : List ℕ) (at : ℕ) → preferred (core.look StartLF) groups text at ≡ line_start_found groups text at
unfolding runs
line_start-matches groups text at = preferred-first (core.look StartLF) groups text at 0 ∙ cases (holds StartLF text at)
  where
    cases : (b : Bool) → option_map (λ r. slice_set r.groups 0 (Some (at, r.at))) (first (cond b (record { at = at; groups = replicate (groups + 1) None; seen = 0 ∷ [] } ∷ []) []))
        ≡ cond b (Some (text_groups [] groups at)) None
    cases true =
        let same : at ≡ at + 0 = omega arith in
        ap (λ (end : ℕ). Some (slice_set (replicate (groups + 1) None) 0 (Some (at, end)))) same
    cases false = refl
