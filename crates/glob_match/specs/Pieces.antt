-- The pieces of a glob: as a sequence, in which a brace holds its options.
use Rattle.glob_match.specs.declared.piece.Piece.{Piece}

mutual
  -- a sequence of pieces
  pub data Pieces : Type 0 where
    no_pieces : Pieces
    piece : Piece → Pieces → Pieces
    brace : Options → Pieces → Pieces

  -- the options of a brace
  pub data Options : Type 0 where
    no_options : Options
    option : Pieces → Options → Options
