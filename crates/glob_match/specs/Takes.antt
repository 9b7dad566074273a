-- What globs take of a path, as a list of characters. A path of n characters has the places 0 to n between them.
use Rattle.std.specs.Prelude.{◌≡◌, ◌≢◌, ◌⊎◌, ◌+◌, ◌-◌, ◌<◌, ◌≤◌, ℕ, zero, suc, Bool, true, false, List, [], ◌∷◌, length, slice_get, Some, IsSomeAnd}
use Rattle.glob_match.specs.declared.piece.CharacterRange.{CharacterRange}
use Rattle.glob_match.specs.declared.piece.Piece.{Piece}
use Rattle.glob_match.specs.declared.piece.Single.{Single}
use Rattle.glob_match.specs.declared.piece.Single.TheVariants.{Character, AnyCharacter, Class}
use Rattle.glob_match.specs.declared.piece.Piece.TheVariants.{One, AnyRun, AnyDepth, AnyRest}
use Rattle.glob_match.specs.Pieces.{Pieces, Options}
use Rattle.glob_match.specs.Pieces.Pieces.{no_pieces, piece, brace}
use Rattle.glob_match.specs.Pieces.Options.{no_options, option}
use Rattle.glob_match.specs.Reading.{negations, pieces_of}

-- the character lies in one of the ranges
abbrev pub IsInRanges : List CharacterRange → ℕ → Type 0
IsInRanges [] c = ⊥
IsInRanges (range ∷ ranges) c = ((range.first ≤ c) × (c ≤ range.last)) ⊎ IsInRanges ranges c

-- the character is in the class: in its ranges, or in none of them where it is negated
abbrev pub IsInClass : Bool → List CharacterRange → ℕ → Type 0
IsInClass false ranges c = IsInRanges ranges c
IsInClass true ranges c = ¬ (IsInRanges ranges c)

-- what takes one character takes this one
abbrev pub TakesOne : Single → ℕ → Type 0
TakesOne (Character c) d = d ≡ c
TakesOne AnyCharacter d = d ≢ 47
TakesOne (Class negated ranges) d = IsInClass negated ranges d

-- the place is the path's start, or just after a `/`
abbrev pub IsAfterSeparator : List ℕ → ℕ → Type 0
IsAfterSeparator path place = (place ≡ 0) ⊎ ((0 < place) × (slice_get path (place - 1) ≡ Some 47))

-- What a piece takes of a path from one place to another.
abbrev pub PieceTakes : Piece → List ℕ → ℕ → ℕ → Type 0
PieceTakes (One single) path from to = (c : ℕ) × (slice_get path from ≡ Some c) × TakesOne single c × (to ≡ from + 1)
PieceTakes AnyRun path from to = (from ≤ to) × (to ≤ length path) × ((place : ℕ) → from ≤ place → place < to → slice_get path place ≢ Some 47)
PieceTakes AnyDepth path from to = (from ≤ to) × (to ≤ length path) × IsAfterSeparator path to
PieceTakes AnyRest path from to = (from ≤ to) × (to ≤ length path)

abbrev mutual
  -- No pieces take nothing. A sequence takes what its first piece takes, followed by what the others take.
  pub Takes : Pieces → List ℕ → ℕ → ℕ → Type 0
  Takes no_pieces path from to = to ≡ from
  Takes (piece first others) path from to = (mid : ℕ) × PieceTakes first path from mid × Takes others path mid to
  Takes (brace all others) path from to = (mid : ℕ) × OptionTakes all path from mid × Takes others path mid to

  -- a brace takes what one of its options takes
  pub OptionTakes : Options → List ℕ → ℕ → ℕ → Type 0
  OptionTakes no_options path from to = ⊥
  OptionTakes (option first others) path from to = Takes first path from to ⊎ OptionTakes others path from to

-- the pieces take the whole path, negated once for each `!`
abbrev pub FitsUnder : ℕ → Pieces → List ℕ → Type 0
FitsUnder zero pieces path = Takes pieces path 0 (length path)
FitsUnder (suc others) pieces path = ¬ (FitsUnder others pieces path)

-- A glob fits a path, both by their characters. An invalid glob has no pieces, and fits nothing whatever its `!`s.
abbrev pub Fits : List ℕ → List ℕ → Type 0
Fits glob path = IsSomeAnd (pieces_of glob) (λ pieces. FitsUnder (negations glob) pieces path)
