-- The nearest place to which a piece leads, place by place.
use Rattle.std.proofs.Common.{◌≤◌, ℕ, Bool, List}
use Rattle.glob_match.specs.declared.piece.Piece.{Piece}
use Rattle.glob_match.specs.Takes.{PieceTakes}
use Rattle.glob_match.specs.Places.{Holds}

-- a piece leads from a place to this one, and one may go on from here
abbrev pub MayTake : Piece → List ℕ → List Bool → ℕ → ℕ → Type 0
MayTake p path next from place = PieceTakes p path from place × Holds next place

-- none of the numbers before this one is such
abbrev pub NoneBefore : (ℕ → Type 0) → ℕ → Type 0
NoneBefore P at = (n : ℕ) → P n → at ≤ n
