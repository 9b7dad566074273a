-- Globs of ASCII characters: whether they are valid, and what one fits.
use Rattle.std.proofs.Common.{◌≡◌, ℕ, ◌<◌, List, [], ◌∷◌, refl, sym, subst, inl, inr}
use Rattle.std.specs.Prelude.{chars, IsSome, None}
use Rattle.std.specs.List.{AllByRecursion}
use Rattle.std.specs.Str.{IsAscii}
use Rattle.std.proofs.lemmas.List.Elements.{All-from_recursion}
use Rattle.std.proofs.lemmas.Str.{chars-IsAscii}
use Rattle.std.proofs.lemmas.Str.Ascii.{IsAscii-from_all}
use Rattle.glob_match.specs.Takes.{Fits}
use Rattle.glob_match.specs.Reading.{pieces_of}
use Rattle.chosen_files.specs.Globs.{FitsAny, IsValid}
use Rattle.chosen_files.proofs.laws.PlaceLemmas.{in_from_contains, contains_from_in}

ascii : (text : List ℕ) → AllByRecursion (λ b. b < 128) text → IsAscii text
ascii text each = IsAscii-from_all text (All-from_recursion (λ b. b < 128) text each)

-- the characters of the globs and the paths are their bytes
pub by_bytes : (glob path : List ℕ) → AllByRecursion (λ b. b < 128) glob → AllByRecursion (λ b. b < 128) path → Fits (chars glob) (chars path) ≡ Fits glob path
by_bytes glob path low small = λ i. Fits (chars-IsAscii glob (ascii glob low) i) (chars-IsAscii path (ascii path small) i)

pub valid_one : (glob : List ℕ) → AllByRecursion (λ b. b < 128) glob → IsSome (pieces_of glob) → IsValid glob
valid_one glob low valid = subst (λ (text : List ℕ). IsSome (pieces_of text)) (sym (chars-IsAscii glob (ascii glob low))) valid

pub invalid_one : (glob : List ℕ) → AllByRecursion (λ b. b < 128) glob → pieces_of glob ≡ None → ¬ IsValid glob
invalid_one glob low none valid =
    let some = subst (λ (text : List ℕ). IsSome (pieces_of text)) (chars-IsAscii glob (ascii glob low)) valid in
    cc (some, none)

pub fits_one : (glob path : List ℕ) → AllByRecursion (λ b. b < 128) glob → AllByRecursion (λ b. b < 128) path → Fits glob path → FitsAny (glob ∷ []) path
fits_one glob path low small fits = (glob, contains_from_in (glob ∷ []) glob (inl refl), subst (λ (F : Type 0). F) (sym (by_bytes glob path low small)) fits)

pub fits_only : (glob path : List ℕ) → AllByRecursion (λ b. b < 128) glob → AllByRecursion (λ b. b < 128) path → FitsAny (glob ∷ []) path → Fits glob path
fits_only glob path low small (one, is_one, fits) = elim (in_from_contains (glob ∷ []) one is_one) [
  | inl e ↦ subst (λ (F : Type 0). F) (by_bytes glob path low small) (subst (λ (g : List ℕ). Fits (chars g) (chars path)) (sym e) fits)
  | inr none ↦ absurd none
]
