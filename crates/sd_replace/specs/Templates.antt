-- Replacement texts in pieces.
use Rattle.std.specs.Prelude.{◌≡◌, ℕ, List}
use Rattle.std.specs.List.{flat_map}
use Rattle.hir_tree.specs.Tree.{Tree}
use Rattle.sd_replace.specs.Replacement.{substituted}
use Rattle.sd_replace.specs.declared.replacer.Substitute.{Substitute}
use Rattle.sd_replace.specs.declared.template.Piece.{Piece}
use Rattle.sd_replace.specs.declared.template.Piece.TheVariants.{Bytes, Group}

-- what a piece stands for, where groups have these texts
abbrev pub piece_text : (ℕ → List ℕ) → Piece → List ℕ
piece_text text_of (Bytes bytes) = bytes.items
piece_text text_of (Group number) = text_of number

-- what pieces stand for
abbrev pub pieces_text : (ℕ → List ℕ) → List Piece → List ℕ
pieces_text text_of pieces = flat_map (piece_text text_of) pieces

-- the pieces are those of what takes the place of a match
abbrev pub ArePiecesOf : Substitute → Tree → List Piece → Type 0
ArePiecesOf substitute tree pieces = (text_of : ℕ → List ℕ) → pieces_text text_of pieces ≡ substituted substitute tree text_of
