-- How many bytes a spot takes.
use Rattle.std.proofs.Common.{◌≡◌, ℕ, ◌+◌, ◌^◌, ◌<◌, ◌≤◌, Bool, true, false, List, length, drop, slice_index, Option, Some, None, IfSome, if◌then◌else◌, sym, ap, ap₂, ◌∙◌, true≢false, arith, get_or-drop, length-drop, rules}
use Rattle.std.specs.Prelude.{◌&&◌}
use Rattle.std.proofs.lemmas.Bool.{lt-ltb}
use Rattle.std.proofs.lemmas.Option.{slice_get-get_or}
use Rattle.bstr.specs.Utf8.{Decoded}
use Rattle.bstr.proofs.lemmas.PieceLemmas.{value-1}
use Rattle.hir_tree.specs.Runs.{in_set, size_in, byte_size, char_size}
use Rattle.hir_tree.proofs.RunsLemmas.{TakesWithin, byte_size-within, char_size-within}
use Rattle.hir_core.specs.Pass.{leads_on, taken}
use Rattle.hir_core.specs.Sizes.{IsSizeTaken}
use Rattle.hir_program.specs.Masks.{is_taker, next_of, takes_byte}
use Rattle.hir_program.specs.Program.{Way}
use Rattle.hir_program.specs.declared.spot.Spot.{Spot}
use Rattle.hir_program.specs.declared.spot.Spot.TheVariants as spot

-- one byte, or none
abbrev pub one_if : Bool → Option ℕ
one_if b = if b then Some 1 else None

-- a byte is taken if the set has it
pub byte-size : (text : List ℕ) (set : List (ℕ × ℕ)) (at : ℕ) → at < length text → byte_size set text at ≡ one_if (in_set set (slice_index text at))
unfolding byte_size
byte-size text set at within = ap (size_in set 1) (slice_get-get_or text at 0 within)

-- so is one of ASCII as a character
pub char-size : (text : List ℕ) (set : List (ℕ × ℕ)) (at : ℕ) → at < length text → slice_index text at < 128
    → char_size set text at ≡ one_if (in_set set (slice_index text at))
unfolding char_size
char-size text set at within low =
    let bs : List ℕ = drop at text in
    let first : slice_index bs 0 ≡ slice_index text at = get_or-drop at text 0 0 ∙ ap (slice_index text) (let z : at + 0 ≡ at = omega arith in z) in
    let some : 0 < length bs = omega (arith, length-drop at text, within) in
    let small : slice_index bs 0 < 128 = omega (arith, first, low) in
    let whole = value-1 (length bs) (slice_index bs 0) (slice_index bs 1) (slice_index bs 2) (slice_index bs 3) (some, small) in
    ap (λ (p : Decoded). size_in set p.size p.char) whole ∙ ap (λ (m : ℕ). one_if (in_set set m)) first

one-within : (text : List ℕ) (at : ℕ) (b : Bool) → at < length text → IfSome (one_if b) (λ bytes. at + bytes ≤ length text)
one-within text at true within = omega arith
one-within text at false within = search rules

-- of ASCII a spot takes one byte, or none
pub size-of-ascii : (text : List ℕ) (s : Spot) (at : ℕ) (takes : Bool) → at < length text → slice_index text at < 128
    → (is_taker s ≡ true → takes ≡ takes_byte s (slice_index text at)) → IsSizeTaken text s at (one_if takes)
size-of-ascii text s at takes within low says = record { leads = λ w here taker. on w here s taker (says taker); within = one-within text at takes within }
  where
    on : (w : Way) → w.run.at ≡ at → (s : Spot) → is_taker s ≡ true → takes ≡ takes_byte s (slice_index text at)
        → leads_on text s w ≡ taken (one_if takes) (next_of s) w
    on w here (spot.Bytes q set) taker e =
        ap (λ (i : ℕ). taken (byte_size set text i) q w) here ∙ ap (λ (o : Option ℕ). taken o q w) (byte-size text set at within)
        ∙ ap (λ (b : Bool). taken (one_if b) q w) (sym e)
    on w here (spot.Chars q set) taker e =
        ap (λ (i : ℕ). taken (char_size set text i) q w) here ∙ ap (λ (o : Option ℕ). taken o q w) (char-size text set at within low)
        ∙ ap (λ (b : Bool). taken (one_if b) q w) (sym (e ∙ ap (λ (b : Bool). b && in_set set (slice_index text at)) (lt-ltb _ _ low)))
    on w here (spot.Look l q) taker e = absurd (true≢false (sym taker))
    on w here (spot.Jump q) taker e = absurd (true≢false (sym taker))
    on w here (spot.Split p q) taker e = absurd (true≢false (sym taker))
    on w here (spot.Open q) taker e = absurd (true≢false (sym taker))
    on w here (spot.Close i q) taker e = absurd (true≢false (sym taker))
    on w here spot.Fail taker e = absurd (true≢false (sym taker))
    on w here spot.Match taker e = absurd (true≢false (sym taker))

within-at : (text : List ℕ) (size : ℕ → Option ℕ) → TakesWithin text size → (at : ℕ) (o : Option ℕ) → o ≡ size at → IfSome o (λ bytes. at + bytes ≤ length text)
within-at text size within at None e = search rules
within-at text size within at (Some k) e = (within at k (sym e)).1

-- a spot takes what its set takes
pub size-of-bytes : (text : List ℕ) (s : Spot) (set : List (ℕ × ℕ)) (q at : ℕ) (o : Option ℕ) → s ≡ spot.Bytes q set → o ≡ byte_size set text at
    → IsSizeTaken text s at o
size-of-bytes text s set q at o k e = record {
  leads = λ w here taker.
      ap (λ (t : Spot). leads_on text t w) k ∙ ap (λ (i : ℕ). taken (byte_size set text i) q w) here
      ∙ ap₂ (λ (p : Option ℕ) (t : Spot). taken p (next_of t) w) (sym e) (sym k);
  within = within-at text (byte_size set text) (byte_size-within set text) at o e;
}

pub size-of-chars : (text : List ℕ) (s : Spot) (set : List (ℕ × ℕ)) (q at : ℕ) (o : Option ℕ) → s ≡ spot.Chars q set → o ≡ char_size set text at
    → IsSizeTaken text s at o
size-of-chars text s set q at o k e = record {
  leads = λ w here taker.
      ap (λ (t : Spot). leads_on text t w) k ∙ ap (λ (i : ℕ). taken (char_size set text i) q w) here
      ∙ ap₂ (λ (p : Option ℕ) (t : Spot). taken p (next_of t) w) (sym e) (sym k);
  within = within-at text (char_size set text) (char_size-within set text) at o e;
}

-- it leaves room
pub size-fits : (at n : ℕ) → n < 2 ^ 63 → (o : Option ℕ) → IfSome o (λ bytes. at + bytes ≤ n) → IfSome o (λ bytes. at + bytes < 2 ^ 64)
size-fits at n short None h = search rules
size-fits at n short (Some k) h = omega (arith, h)
