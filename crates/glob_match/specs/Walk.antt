-- A walk over the tokens of a glob that takes its captures: what each token does to the place reached, the captures so far, and the braces that are open, the innermost last.
use Rattle.std.specs.Prelude.{◌≡◌, ◌≢◌, ◌⊎◌, ◌<◌, ℕ, Bool, List, [], ◌∷◌, ◌++◌, length, set}
use Rattle.glob_match.specs.declared.piece.Single.TheVariants.{Character}
use Rattle.glob_match.specs.declared.piece.Piece.{Piece}
use Rattle.glob_match.specs.declared.piece.Piece.TheVariants.{One}
use Rattle.glob_match.specs.declared.piece.Token.{Token}
use Rattle.glob_match.specs.declared.piece.Token.TheVariants as token
use Rattle.glob_match.specs.declared.walk.Capture.{Capture}
use Rattle.glob_match.specs.declared.walk.State.{State}
use Rattle.glob_match.specs.declared.walk.State.TheVariants.{Looking, Taking, Passing}
use Rattle.glob_match.specs.declared.walk.Choice.{Choice}
use Rattle.glob_match.specs.declared.walk.Walk.{Walk}
use Rattle.glob_match.specs.Takes.{PieceTakes}
use Rattle.glob_match.specs.Places.{Holds}
use Rattle.glob_match.specs.Onward.{depth_after, AreOnward}
use Rattle.glob_match.specs.Captures.{IsLeast, between, captured}

-- where a walk stands
pub record Stand : Type 0 where
  pub place : ℕ
  pub captures : List Capture
  pub choices : List Choice

abbrev pub stand_of : Walk → Stand
stand_of walk = record { place = walk.place; captures = walk.captures.items; choices = walk.choices.items }

-- the same brace in this state
abbrev pub turned : Choice → State → Choice
turned choice state = record { capture = choice.capture; start = choice.start; state = state }

-- pieces move the walk where no brace is open, and in an option that is taken
abbrev pub Moves : List Choice → Type 0
Moves choices = (choices ≡ []) ⊎ ((outer : List Choice) × (choice : Choice) × (choices ≡ outer ++ choice ∷ []) × (choice.state ≡ Taking))

-- pieces are passed in any other option of a brace that starts here
abbrev pub PassesAt : List Choice → ℕ → Type 0
PassesAt choices start = (outer : List Choice) × (choice : Choice) × (choices ≡ outer ++ choice ∷ []) × (choice.state ≢ Taking) × (start ≡ choice.start)

-- the number is the least of which this holds, where it holds of any
abbrev pub IsLeastIfAny : (ℕ → Type 0) → ℕ → Type 0
IsLeastIfAny Holding least = (n : ℕ) → Holding n → IsLeast Holding least

-- the place is the least to which a piece leads and from which one may go on, where there is one
abbrev pub IsNearest : Piece → List ℕ → List Bool → ℕ → ℕ → Type 0
IsNearest p path next from to = IsLeastIfAny (λ place. PieceTakes p path from place × Holds next place) to

-- a piece moves the walk to this place
abbrev pub moved : Piece → ℕ → Stand → Stand
moved p to stand = record { place = to; captures = stand.captures ++ captured p stand.place to; choices = stand.choices }

-- a piece is passed in an option that isn't taken
abbrev pub passed_over : Piece → ℕ → Stand → Stand
passed_over p start stand = record { place = stand.place; captures = stand.captures ++ captured p start start; choices = stand.choices }

-- what a piece does
abbrev pub IsPieceStep : Piece → List ℕ → List Bool → Stand → Stand → Type 0
IsPieceStep p path next old new =
    (Moves old.choices × ((to : ℕ) × IsNearest p path next old.place to × (new ≡ moved p to old))) ⊎ ((start : ℕ) × PassesAt old.choices start × (new ≡ passed_over p start old))

-- a brace is opened that starts here
abbrev pub entered : ℕ → State → Stand → Stand
entered start state stand = record {
  place = stand.place;
  captures = stand.captures ++ between start start ∷ [];
  choices = stand.choices ++ record { capture = length stand.captures; start = start; state = state } ∷ [];
}

-- an option is taken from which one may go on
abbrev pub IsLooked : List Bool → ℕ → State → Type 0
IsLooked next place state = (Holds next place × (state ≡ Taking)) ⊎ (¬ (Holds next place) × (state ≡ Looking))

-- what `{` does
abbrev pub IsOpenStep : List Bool → Stand → Stand → Type 0
IsOpenStep next old new =
    (Moves old.choices × ((state : State) × IsLooked next old.place state × (new ≡ entered old.place state old))) ⊎ ((start : ℕ) × PassesAt old.choices start × (new ≡ entered start Passing old))

-- the brace's capture ends at the place reached
abbrev pub ended : Choice → ℕ → List Capture → List Capture
ended choice place captures = set captures choice.capture (between choice.start place)

-- what `,` does in a brace of this state: the option that was taken ends, or the next one is looked at
abbrev pub IsParting : State → List Bool → List Choice → Choice → Stand → Stand → Type 0
IsParting Taking next outer choice old new = new ≡ record { place = old.place; captures = ended choice old.place old.captures; choices = outer ++ turned choice Passing ∷ [] }
IsParting Looking next outer choice old new =
    (state : State) × IsLooked next choice.start state × (new ≡ record { place = choice.start; captures = old.captures; choices = outer ++ turned choice state ∷ [] })
IsParting Passing next outer choice old new = new ≡ record { place = old.place; captures = old.captures; choices = outer ++ turned choice Passing ∷ [] }

-- what `}` does in a brace of this state
abbrev pub closing : State → List Choice → Choice → Stand → Stand
closing Taking outer choice old = record { place = old.place; captures = ended choice old.place old.captures; choices = outer }
closing _ outer choice old = record { place = old.place; captures = old.captures; choices = outer }

-- where no brace is open, a sign is a piece: the character itself
abbrev pub IsPlainStep : ℕ → List ℕ → List Bool → Stand → Stand → Type 0
IsPlainStep sign path next old new = old.choices ≡ [] → IsPieceStep (One (Character sign)) path next old new

abbrev pub IsPartStep : List Bool → Stand → Stand → Type 0
IsPartStep next old new = (outer : List Choice) (choice : Choice) → old.choices ≡ outer ++ choice ∷ [] → IsParting choice.state next outer choice old new

abbrev pub IsCloseStep : Stand → Stand → Type 0
IsCloseStep old new = (outer : List Choice) (choice : Choice) → old.choices ≡ outer ++ choice ∷ [] → new ≡ closing choice.state outer choice old

-- what a token does
abbrev pub IsWalkStep : Token → List ℕ → List Bool → Stand → Stand → Type 0
IsWalkStep (token.Piece p) path next old new = IsPieceStep p path next old new
IsWalkStep token.Open path next old new = IsOpenStep next old new
IsWalkStep token.Comma path next old new = IsPlainStep 44 path next old new × IsPartStep next old new
IsWalkStep token.Close path next old new = IsPlainStep 125 path next old new × IsCloseStep old new

-- each open brace has its capture among so many
abbrev pub HasCapture : ℕ → Choice → Type 0
HasCapture n choice = choice.capture < n

-- the sets after each of the tokens
abbrev pub AreAfter : ℕ → List Token → List ℕ → List (List Bool) → Type 0
AreAfter depth [] path sets = sets ≡ []
AreAfter depth (first ∷ tokens) path sets = AreOnward (depth_after depth first) tokens path sets
