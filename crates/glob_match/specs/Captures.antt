-- What globs capture of paths, as ranges of places between characters, and of bytes.
use Rattle.std.specs.Prelude.{◌≡◌, ◌⊎◌, ◌+◌, ◌-◌, ◌≤◌, max, ℕ, Bool, true, false, List, [], ◌∷◌, ◌++◌, length, take, map, encode_utf8_all, slice_index, IsCharBoundary, Option, Some, None}
use Rattle.std.specs.declared.ops.Range.{Range}
use Rattle.glob_match.specs.declared.walk.Capture.{Capture}
use Rattle.glob_match.specs.declared.piece.Single.TheVariants.{Character}
use Rattle.glob_match.specs.declared.piece.Piece.{Piece}
use Rattle.glob_match.specs.declared.piece.Piece.TheVariants.{One, AnyDepth}
use Rattle.glob_match.specs.Pieces.{Pieces, Options}
use Rattle.glob_match.specs.Pieces.Pieces.{no_pieces, piece, brace}
use Rattle.glob_match.specs.Pieces.Options.{no_options, option}
use Rattle.glob_match.specs.Reading.{negations, is_odd, pieces_of}
use Rattle.glob_match.specs.Takes.{PieceTakes, Takes}

-- the capture of what stands between two places
abbrev pub between : ℕ → ℕ → Capture
between from to = record { from = from; to = to }

-- What a piece captures that took what stands between two places: nothing where it's a character. `**/` leaves out the last `/` that it took.
abbrev pub captured : Piece → ℕ → ℕ → List Capture
captured (One (Character c)) from to = []
captured AnyDepth from to = between from (max from (to - 1)) ∷ []
captured _ from to = between from to ∷ []

abbrev mutual
  -- the empty captures at a place of pieces that aren't taken
  pub passed : Pieces → ℕ → List Capture
  passed no_pieces place = []
  passed (piece p others) place = captured p place place ++ passed others place
  passed (brace all others) place = between place place ∷ (passed_options all place ++ passed others place)

  -- the same of options
  pub passed_options : Options → ℕ → List Capture
  passed_options no_options place = []
  passed_options (option first others) place = passed first place ++ passed_options others place

-- the least number of which this holds
pub record IsLeast (Holding : ℕ → Type 0) (least : ℕ) : Type 0 where
  pub holds : Holding least
  pub below_all : (n : ℕ) → Holding n → least ≤ n

-- the pieces lead from a place to one from which a path may go on
abbrev pub LeadsOn : Pieces → List ℕ → (ℕ → Type 0) → ℕ → Type 0
LeadsOn pieces path GoesOn from = (to : ℕ) × Takes pieces path from to × GoesOn to

abbrev mutual
  -- The first derivation from a place to another: each piece leads to the least place from which the others can go on, and a brace takes the first option that can.
  pub IsFirst : Pieces → List ℕ → (ℕ → Type 0) → ℕ → ℕ → List Capture → Type 0
  IsFirst no_pieces path GoesOn from to captures = (to ≡ from) × (captures ≡ [])
  IsFirst (piece p others) path GoesOn from to captures =
      (mid : ℕ) × (more : List Capture) × IsLeast (λ place. PieceTakes p path from place × LeadsOn others path GoesOn place) mid
      × IsFirst others path GoesOn mid to more × (captures ≡ captured p from mid ++ more)
  IsFirst (brace all others) path GoesOn from to captures =
      (mid : ℕ) × (inner : List Capture) × (more : List Capture) × IsFirstOption all path (LeadsOn others path GoesOn) from mid inner
      × IsFirst others path GoesOn mid to more × (captures ≡ between from mid ∷ (inner ++ more))

  -- the first derivation through the first option that can go on; what lies in the others is empty
  pub IsFirstOption : Options → List ℕ → (ℕ → Type 0) → ℕ → ℕ → List Capture → Type 0
  IsFirstOption no_options path GoesOn from to captures = ⊥
  IsFirstOption (option first others) path GoesOn from to captures =
      (LeadsOn first path GoesOn from × ((more : List Capture) × IsFirst first path GoesOn from to more × (captures ≡ more ++ passed_options others from)))
      ⊎ (¬ (LeadsOn first path GoesOn from) × ((more : List Capture) × IsFirstOption others path GoesOn from to more × (captures ≡ passed first from ++ more)))

-- the place is the path's end
abbrev pub IsEnd : List ℕ → ℕ → Type 0
IsEnd path place = place ≡ length path

-- what pieces that take a whole path capture of it
abbrev pub Captures : Pieces → List ℕ → List Capture → Type 0
Captures pieces path captures = IsFirst pieces path (IsEnd path) 0 (length path) captures

-- nothing under an odd number of `!`, and else what the pieces capture
abbrev pub CapturesUnder : Bool → Option Pieces → List ℕ → List Capture → Type 0
CapturesUnder true pieces path captures = captures ≡ []
CapturesUnder false None path captures = ⊥
CapturesUnder false (Some pieces) path captures = Captures pieces path captures

-- what a glob captures of a path that it fits, both by their characters
abbrev pub GlobCaptures : List ℕ → List ℕ → List Capture → Type 0
GlobCaptures glob path captures = CapturesUnder (is_odd (negations glob)) (pieces_of glob) path captures

-- the capture lies in a path of so many characters
pub record LiesIn (characters : ℕ) (capture : Capture) : Type 0 where
  pub ordered : capture.from ≤ capture.to
  pub within : capture.to ≤ characters

-- ---- bytes

-- a place between characters as a place between bytes: as many as the characters before it have in UTF-8
abbrev pub byte_place : List ℕ → ℕ → ℕ
byte_place path place = length (encode_utf8_all (take place path))

abbrev pub byte_range : List ℕ → Capture → Range ℕ
byte_range path capture = record { start = byte_place path capture.from; end = byte_place path capture.to }

-- the byte ranges that a glob captures of a path that it fits, both by their characters
abbrev pub GlobRanges : List ℕ → List ℕ → List (Range ℕ) → Type 0
GlobRanges glob path ranges = (captures : List Capture) × GlobCaptures glob path captures × (ranges ≡ map (byte_range path) captures)

-- each place between characters has its place between bytes
pub record AreBytePlaces (path : List ℕ) (bytes : List ℕ) : Type 0 where
  pub as_long : length bytes ≡ length path + 1
  pub these : (place : ℕ) → place ≤ length path → slice_index bytes place ≡ byte_place path place

-- a range of bytes of a text, on the boundaries of characters
pub record LiesOnBoundaries (text : List ℕ) (range : Range ℕ) : Type 0 where
  pub ordered : range.start ≤ range.end
  pub start : IsCharBoundary text range.start
  pub end : IsCharBoundary text range.end
