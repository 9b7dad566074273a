-- A glob that was read.
use Rattle.std.specs.Prelude.{◌≡◌, ◌≤◌, ℕ, Bool, List, length, Some}
use Rattle.glob_match.specs.declared.piece.Token.{Token}
use Rattle.glob_match.specs.Pieces.{Pieces}
use Rattle.glob_match.specs.Reading.{is_odd, negations, pieces_of, pieces_of_tokens}

-- the text is that of a valid glob, negated or not, and the tokens make its pieces: at most one token for each character
pub record IsReadOf (text : List ℕ) (negated : Bool) (tokens : List Token) : Type 0 where
  pub negated_is : negated ≡ is_odd (negations text)
  pub pieces : Pieces
  pub valid : pieces_of text ≡ Some pieces
  pub told : pieces_of_tokens (Some tokens) ≡ Some pieces
  pub at_most : length tokens ≤ length text
