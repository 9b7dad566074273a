-- Laws of globs.
use Rattle.std.specs.Prelude.{◌≡◌, ◌≢◌, ◌↔◌, ℕ, List, ◌∷◌, All, IsSome, length}
use Rattle.std.specs.declared.ops.Range.{Range}
use Rattle.glob_match.specs.Reading.{pieces_of}
use Rattle.glob_match.specs.Takes.{Fits}
use Rattle.glob_match.specs.Captures.{GlobRanges}

-- one more `!` turns the answer of a valid glob
abbrev pub OneMoreSignTurns : Type 0
OneMoreSignTurns = (glob path : List ℕ) → IsSome (pieces_of glob) → Fits (33 ∷ glob) path ↔ ¬ (Fits glob path)

-- a character that has no other meaning: none of `!`, `*`, `?`, `[`, `{` and the backslash
pub record IsPlain (c : ℕ) : Type 0 where
  pub no_sign : c ≢ 33
  pub no_star : c ≢ 42
  pub no_mark : c ≢ 63
  pub no_class : c ≢ 91
  pub no_brace : c ≢ 123
  pub no_backslash : c ≢ 92

-- a glob of plain characters fits its own text, and no other
abbrev pub PlainFitsItself : Type 0
PlainFitsItself = (glob path : List ℕ) → All IsPlain glob → Fits glob path ↔ (path ≡ glob)

-- a glob captures one list of ranges of a path
abbrev pub OneListOfRanges : Type 0
OneListOfRanges = (glob path : List ℕ) (some others : List (Range ℕ)) → GlobRanges glob path some → GlobRanges glob path others → some ≡ others

-- a glob captures as many ranges of each path
abbrev pub AsManyRanges : Type 0
AsManyRanges = (glob path other : List ℕ) (some others : List (Range ℕ)) → GlobRanges glob path some → GlobRanges glob other others → length some ≡ length others
