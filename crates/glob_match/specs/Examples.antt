-- Worked examples of globs.
use Rattle.std.specs.Prelude.{◌≡◌, List, ℕ, Some, None}
use Rattle.std.specs.declared.ops.Range.{Range}
use Rattle.glob_match.specs.declared.piece.Single.TheVariants.{Character}
use Rattle.glob_match.specs.declared.piece.Piece.TheVariants.{One}
use Rattle.glob_match.specs.Pieces.{Pieces}
use Rattle.glob_match.specs.Pieces.Pieces.{piece}
use Rattle.glob_match.specs.Reading.{pieces_of}
use Rattle.glob_match.specs.Takes.{Fits}
use Rattle.glob_match.specs.Captures.{GlobRanges}

-- the glob is invalid
abbrev pub IsInvalid : List ℕ → Type 0
IsInvalid glob = pieces_of glob ≡ None

-- the glob has these pieces
abbrev pub IsReadAs : List ℕ → Pieces → Type 0
IsReadAs glob pieces = pieces_of glob ≡ Some pieces

-- a character, and the pieces after it
abbrev pub character : ℕ → Pieces → Pieces
character c others = piece (One (Character c)) others

-- the bytes from one place to another
abbrev pub bytes : ℕ → ℕ → Range ℕ
bytes from to = record { start = from; end = to }

-- the glob fits the path, and captures these ranges of its bytes
abbrev pub HasCaptures : List ℕ → List ℕ → List (Range ℕ) → Type 0
HasCaptures glob path ranges = Fits glob path × GlobRanges glob path ranges
