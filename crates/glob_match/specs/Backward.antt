-- What pieces and tokens do to a set of places as they are taken from a glob's end: the set from which what stands there leads to the path's end.
use Rattle.std.specs.Prelude.{◌≡◌, ◌↔◌, ◌+◌, ℕ, zero, suc, Bool, List, [], ◌∷◌, length}
use Rattle.glob_match.specs.declared.piece.Single.TheVariants.{Character}
use Rattle.glob_match.specs.declared.piece.Piece.{Piece}
use Rattle.glob_match.specs.declared.piece.Piece.TheVariants.{One}
use Rattle.glob_match.specs.declared.piece.Token.{Token}
use Rattle.glob_match.specs.declared.piece.Token.TheVariants as token
use Rattle.glob_match.specs.Takes.{PieceTakes}
use Rattle.glob_match.specs.Places.{Holds, OpenBrace}
use Rattle.glob_match.specs.Braces.{IsOpened, IsParted, IsClosed}
use Rattle.glob_match.specs.Onward.{depth_after}

-- the piece takes what stands between this place and some place of the set
abbrev pub LeadsInto : Piece → List ℕ → List Bool → ℕ → Type 0
LeadsInto piece path places from = (to : ℕ) × Holds places to × PieceTakes piece path from to

-- the set of the places from which the piece leads to a set
pub record IsStepBack (piece : Piece) (path : List ℕ) (places before : List Bool) : Type 0 where
  pub as_long : length before ≡ length path + 1
  pub these : (from : ℕ) → Holds before from ↔ LeadsInto piece path places from

-- the set of the end alone of a path of n characters
pub record IsEndAlone (n : ℕ) (places : List Bool) : Type 0 where
  pub as_long : length places ≡ n + 1
  pub these : (from : ℕ) → Holds places from ↔ (from ≡ n)

-- how many braces are open before each token, where so many are open before the first
abbrev pub depths_from : ℕ → List Token → List ℕ
depths_from depth [] = []
depths_from depth (token ∷ tokens) = depth ∷ depths_from (depth_after depth token) tokens

-- where no brace is open, nothing changes
abbrev pub IsKept : List OpenBrace → List Bool → List OpenBrace → List Bool → Type 0
IsKept braces places after next = braces ≡ [] → (after ≡ []) × (next ≡ places)

-- a piece changes the places alone
abbrev pub IsPieceBack : Piece → List ℕ → List OpenBrace → List Bool → List OpenBrace → List Bool → Type 0
IsPieceBack piece path braces places after next = (after ≡ braces) × IsStepBack piece path places next

-- what a token does, before which so many braces are open: a brace begins at its `}` and ends at its `{`
abbrev pub IsTokenStepBack : ℕ → Token → List ℕ → List OpenBrace → List Bool → List OpenBrace → List Bool → Type 0
IsTokenStepBack depth (token.Piece p) path braces places after next = IsPieceBack p path braces places after next
IsTokenStepBack depth token.Open path braces places after next = IsKept braces places after next × IsClosed braces places after next
IsTokenStepBack zero token.Comma path braces places after next = IsPieceBack (One (Character 44)) path braces places after next
IsTokenStepBack (suc depth) token.Comma path braces places after next = IsKept braces places after next × IsParted braces places after next
IsTokenStepBack zero token.Close path braces places after next = IsPieceBack (One (Character 125)) path braces places after next
IsTokenStepBack (suc depth) token.Close path braces places after next = IsOpened braces places after × (next ≡ places)
