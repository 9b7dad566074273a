-- What the tokens of a glob do to the places reached and the braces that are open, the innermost last.
use Rattle.std.specs.Prelude.{◌≡◌, ℕ, Bool, List, [], ◌∷◌, ◌++◌, length}
use Rattle.glob_match.specs.declared.piece.Single.TheVariants.{Character}
use Rattle.glob_match.specs.declared.piece.Piece.TheVariants.{One}
use Rattle.glob_match.specs.declared.piece.Token.{Token}
use Rattle.glob_match.specs.declared.piece.Token.TheVariants as token
use Rattle.glob_match.specs.Places.{IsStep, IsUnion, IsNowhere, OpenBrace}

-- a brace is opened at these places, which no option leads to yet
abbrev pub IsOpened : List OpenBrace → List Bool → List OpenBrace → Type 0
IsOpened braces places opened = (reached : List Bool) × IsNowhere (length places) reached × (opened ≡ braces ++ record { start = places; reached = reached } ∷ [])

-- where no brace is open, a sign is a piece: the character itself
abbrev pub IsPlain : ℕ → List ℕ → List OpenBrace → List Bool → List OpenBrace → List Bool → Type 0
IsPlain sign path braces places after next = braces ≡ [] → (after ≡ []) × IsStep (One (Character sign)) path places next

-- the innermost brace gets the places to which its option leads, and its next option begins
abbrev pub IsParted : List OpenBrace → List Bool → List OpenBrace → List Bool → Type 0
IsParted braces places after next =
    (outer : List OpenBrace) (brace : OpenBrace) → braces ≡ outer ++ brace ∷ []
    → (reached : List Bool) × IsUnion brace.reached places reached × (after ≡ outer ++ record { start = brace.start; reached = reached } ∷ []) × (next ≡ brace.start)

-- the innermost brace is closed: the places to which one of its options leads
abbrev pub IsClosed : List OpenBrace → List Bool → List OpenBrace → List Bool → Type 0
IsClosed braces places after next = (outer : List OpenBrace) (brace : OpenBrace) → braces ≡ outer ++ brace ∷ [] → (after ≡ outer) × IsUnion places brace.reached next

-- what a token does
abbrev pub IsTokenStep : Token → List ℕ → List OpenBrace → List Bool → List OpenBrace → List Bool → Type 0
IsTokenStep (token.Piece p) path braces places after next = (after ≡ braces) × IsStep p path places next
IsTokenStep token.Open path braces places after next = IsOpened braces places after × (next ≡ places)
IsTokenStep token.Comma path braces places after next = IsPlain 44 path braces places after next × IsParted braces places after next
IsTokenStep token.Close path braces places after next = IsPlain 125 path braces places after next × IsClosed braces places after next
