-- Numbers that are read from texts.
use Rattle.std.proofs.Common.{◌≡◌, ◌≢◌, ◌<◌, ◌^◌, ◌&&◌, ℕ, Bool, true, false, List, length, Some, None, Result, Ok, Err, refl, ap, nat_lt, lt-ltb, ltb-true}
use Rattle.std.specs.Prelude.{slice_index}
use Rattle.std.specs.Result.{OkIff, result_ok}
use Rattle.std.specs.Str.{all_ascii_digits}
use Rattle.std.specs.Str.Parse.{ParsesUnsigned, digits_value}
use Rattle.std.proofs.lemmas.Str.Parse.{IsNumeralModel, numerals_by_value, parse_plain, tells_all_ascii_digits}
use Rattle.clap.proofs.WalkLemmas.{both}
use Rattle.sd_words.specs.Number.{number_of}

own : IsNumeralModel (λ ds. all_ascii_digits ds ≡ true) (digits_value 10)
own = numerals_by_value _ tells_all_ascii_digits

abbrev is_number : List ℕ → Bool
is_number text = nat_lt 0 (length text) && (all_ascii_digits text && nat_lt (digits_value 10 text) (2 ^ 64))

read : {E : Type 0} (text : List ℕ) (r : Result ℕ E) → OkIff r ((all_ascii_digits text ≡ true) × (0 < length text) × (digits_value 10 text < 2 ^ 64)) (digits_value 10 text) → result_ok r ≡ number_of text
read text (Ok n) h = rw (lt-ltb 0 (length text) h.0.1, h.0.0, lt-ltb (digits_value 10 text) (2 ^ 64) h.0.2) (ap Some h.1)
read text (Err e) h = go (is_number text) refl
  where
    go : (b : Bool) → is_number text ≡ b → None ≡ number_of text
    go false t = rw t refl
    go true t =
        let outer = both _ _ t in
        let inner = both _ _ outer.1 in
        absurd (h (inner.0, ltb-true _ _ outer.0, ltb-true _ _ inner.1))

-- a text without a plus in front, read as a number
pub number_read : {E : Type 0} (text : List ℕ) (r : Result ℕ E) → ParsesUnsigned 64 10 text r → slice_index text 0 ≢ 43 → result_ok r ≡ number_of text
number_read text r h ne = read text r (parse_plain own 64 text r h ne)
