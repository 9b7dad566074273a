-- From where in a path the rest of a glob goes on to the path's end.
use Rattle.std.specs.Prelude.{◌≡◌, ◌↔◌, ◌+◌, ℕ, zero, suc, Bool, List, [], ◌∷◌, length, Some}
use Rattle.glob_match.specs.declared.piece.Token.{Token}
use Rattle.glob_match.specs.declared.piece.Token.TheVariants as token
use Rattle.glob_match.specs.Reading.{Rest, rest_of}
use Rattle.glob_match.specs.Reading.Rest.{outside, inside}
use Rattle.glob_match.specs.Takes.{Takes}
use Rattle.glob_match.specs.Places.{Holds}

-- what stands from a place of a glob to its end goes on from a place of the path to the path's end
abbrev pub GoesOn : Rest → List ℕ → ℕ → Type 0
GoesOn (outside left) path from = Takes left path from (length path)
GoesOn (inside left others rest) path from = (mid : ℕ) × Takes left path from mid × GoesOn rest path mid

-- the set of the places from which it goes on
pub record IsOnward (rest : Rest) (path : List ℕ) (places : List Bool) : Type 0 where
  pub as_long : length places ≡ length path + 1
  pub these : (from : ℕ) → Holds places from ↔ GoesOn rest path from

-- how many braces are open after a token, where so many are open before it
abbrev pub depth_after : ℕ → Token → ℕ
depth_after depth (token.Piece p) = depth
depth_after depth token.Open = suc depth
depth_after depth token.Comma = depth
depth_after zero token.Close = zero
depth_after (suc depth) token.Close = depth

-- the set of the places from which tokens within so many open braces go on
abbrev pub IsOnwardFrom : ℕ → List Token → List ℕ → List Bool → Type 0
IsOnwardFrom depth tokens path places = (rest : Rest) × (rest_of depth tokens ≡ Some rest) × IsOnward rest path places

-- the sets before each token, and after the last one, of tokens within so many open braces
abbrev pub AreOnward : ℕ → List Token → List ℕ → List (List Bool) → Type 0
AreOnward depth tokens path [] = ⊥
AreOnward depth [] path (set ∷ sets) = IsOnwardFrom depth [] path set × (sets ≡ [])
AreOnward depth (token ∷ tokens) path (set ∷ sets) = IsOnwardFrom depth (token ∷ tokens) path set × AreOnward (depth_after depth token) tokens path sets
