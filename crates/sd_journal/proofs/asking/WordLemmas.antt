-- Two words.
use Rattle.std.proofs.Common.{◌≡◌, ℕ, List, [], ◌∷◌, length, ap, arith}
use Rattle.std.specs.Prelude.{Some, slice_get}
use Rattle.std.proofs.lemmas.Option.{same_Some}

-- a first one, and another
pub two_words : (words : List (List ℕ)) (first : List ℕ) → length words ≡ 2 → slice_get words 0 ≡ Some first → (second : List ℕ) × (words ≡ first ∷ second ∷ [])
two_words [] first long at = absurd (omega (arith, long))
two_words (one ∷ []) first long at = absurd (omega (arith, long))
two_words (one ∷ two ∷ []) first long at = (two, ap (λ (word : List ℕ). word ∷ two ∷ []) (same_Some one first at))
two_words (one ∷ two ∷ three ∷ words) first long at = absurd (omega (arith, long))
