use Rattle.std.proofs.Common.{◌≡◌, ◌==◌, ℕ, Option, None, sym, ◌∙◌, eq-eqb}
use Rattle.std.proofs.lemmas.Bool.{cond-true}
use Rattle.bstr.specs.Utf8.{Decoded}
use Rattle.hir_tree.specs.Sides.{char_of_length}
use Rattle.hir_tree.proofs.side.char_of_length.Goals as goal

of_length : (front : Decoded) (bytes size : ℕ) (character : Option ℕ) → character ≡ front.char → size ≡ front.size → size ≡ bytes
    → character ≡ char_of_length bytes front
of_length front bytes size character is takes same =
    is ∙ sym (cond-true (front.size == bytes) front.char None (eq-eqb front.size bytes (sym takes ∙ same)))

pub returns-then-size-bytes : goal.returns-then-size-bytes
returns-then-size-bytes c = of_length _ _ _ _ c.decode-character.ensures.char c.decode-character.ensures.size c.if-size-bytes.true
