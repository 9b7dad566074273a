-- Sets of places in a path, as lists of tests: a path of n characters has the places 0 to n.
use Rattle.std.specs.Prelude.{◌≡◌, ◌↔◌, ◌⊎◌, ◌+◌, ℕ, Bool, true, List, length, slice_get, Some}
use Rattle.glob_match.specs.Pieces.{Pieces}
use Rattle.glob_match.specs.declared.piece.Single.{Single}
use Rattle.glob_match.specs.declared.piece.Piece.{Piece}
use Rattle.glob_match.specs.Takes.{TakesOne, PieceTakes, Takes}

-- the place is in the set
abbrev pub Holds : List Bool → ℕ → Type 0
Holds places place = slice_get places place ≡ Some true

-- what takes one character takes the one that stands right after the place
abbrev pub TakesAt : Single → List ℕ → ℕ → Type 0
TakesAt single path place = (c : ℕ) × (slice_get path place ≡ Some c) × TakesOne single c

-- the piece takes what stands between some place of the set and this one
abbrev pub LeadsTo : Piece → List ℕ → List Bool → ℕ → Type 0
LeadsTo piece path places to = (from : ℕ) × Holds places from × PieceTakes piece path from to

-- the set of the places to which the piece leads from a set
pub record IsStep (piece : Piece) (path : List ℕ) (places next : List Bool) : Type 0 where
  pub as_long : length next ≡ length path + 1
  pub these : (to : ℕ) → Holds next to ↔ LeadsTo piece path places to

-- the set of the start alone of a path of n characters
pub record IsStartAlone (n : ℕ) (places : List Bool) : Type 0 where
  pub as_long : length places ≡ n + 1
  pub these : (to : ℕ) → Holds places to ↔ (to ≡ 0)

-- the places of both sets, of the same path
pub record IsUnion (some others both : List Bool) : Type 0 where
  pub as_long : length both ≡ length some
  pub these : (to : ℕ) → Holds both to ↔ (Holds some to ⊎ Holds others to)

-- the empty set of n places
pub record IsNowhere (n : ℕ) (places : List Bool) : Type 0 where
  pub as_long : length places ≡ n
  pub none : (to : ℕ) → ¬ (Holds places to)

-- the places to which the pieces lead from the start
pub record IsReached (pieces : Pieces) (path : List ℕ) (places : List Bool) : Type 0 where
  pub as_long : length places ≡ length path + 1
  pub these : (to : ℕ) → Holds places to ↔ Takes pieces path 0 to

-- a brace that is open: the places before it, and those to which its options so far lead
pub record OpenBrace : Type 0 where
  pub start : List Bool
  pub reached : List Bool

-- both sets are of n places
abbrev pub IsOfPlaces : ℕ → OpenBrace → Type 0
IsOfPlaces n brace = (length brace.start ≡ n) × (length brace.reached ≡ n)
