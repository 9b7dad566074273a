-- Laws of the characters beside a place.
use Rattle.std.specs.Prelude.{◌≡◌, ℕ, List, ◌++◌, length, take, drop, encode_utf8}
use Rattle.std.specs.Char.{IsScalar}
use Rattle.hir_tree.specs.Ranges.{Holds}

-- the UTF-8 of a character begins at a place
abbrev pub BeginsAt : ℕ → List ℕ → ℕ → Type 0
BeginsAt c text at = IsScalar c × ((rest : List ℕ) × (drop at text ≡ encode_utf8 c ++ rest))

-- the UTF-8 of a character ends at a place
abbrev pub EndsAt : ℕ → List ℕ → ℕ → Type 0
EndsAt c text at = IsScalar c × ((front : List ℕ) × (take at text ≡ front ++ encode_utf8 c))

-- the UTF-8 of a member of a set of characters begins at a place, and takes so many bytes
abbrev pub MemberBeginsAt : List (ℕ × ℕ) → List ℕ → ℕ → ℕ → Type 0
MemberBeginsAt set text at size = (c : ℕ) × Holds set c × BeginsAt c text at × (length (encode_utf8 c) ≡ size)
