use Rattle.std.proofs.Common.{List, ◌++◌, ap, ◌∙◌}
use Rattle.sd_replace.specs.Templates.{pieces_text}
use Rattle.sd_replace.specs.declared.template.Piece.{Piece}
use Rattle.sd_replace.proofs.template.literal.Goals as goal

pub returns : goal.returns
returns c = λ text_of. c.in_ok-push_bytes.ensures text_of ∙ ap (λ (pieces : List Piece). pieces_text text_of pieces ++ c.args.text.now) c.new-pieces.ensures.items
