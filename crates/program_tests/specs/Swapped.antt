-- What bytes become where one text takes the place of another.
use Rattle.std.proofs.Common.{◌∙◌, sym}
use Rattle.std.specs.Prelude.{◌≡◌, ◌==◌, ◌+◌, ◌-◌, ℕ, zero, suc, List, [], ◌∷◌, ◌++◌, length, if◌then◌else◌}
use Rattle.std.specs.List.{starts_with}
use Rattle.sd_change.specs.Change.{Change, IsOne}

-- the new bytes, where so many at first are still of the last text that was found
abbrev pub swapped : (find other : List ℕ) → ℕ → List ℕ → List ℕ
swapped find other left [] = []
swapped find other (suc left) (byte ∷ bytes) = swapped find other left bytes
swapped find other zero (byte ∷ bytes) =
    if starts_with ◌==◌ (byte ∷ bytes) find then other ++ swapped find other (length find - 1) bytes else byte ∷ swapped find other zero bytes

-- how often the text is found
abbrev pub spans : (find : List ℕ) → ℕ → List ℕ → ℕ
spans find left [] = 0
spans find (suc left) (byte ∷ bytes) = spans find left bytes
spans find zero (byte ∷ bytes) =
    if starts_with ◌==◌ (byte ∷ bytes) find then spans find (length find - 1) bytes + 1 else spans find zero bytes

-- each text that is found becomes the other
abbrev pub Swaps : List ℕ → List ℕ → Change
Swaps find other bytes new_bytes count = (new_bytes ≡ swapped find other 0 bytes) × (count ≡ spans find 0 bytes)

pub one_swap : (find other : List ℕ) → IsOne (Swaps find other)
one_swap find other bytes new_bytes others m n a b = (a.0 ∙ sym b.0, a.1 ∙ sym b.1)
