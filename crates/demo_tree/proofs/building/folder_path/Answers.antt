use Rattle.std.proofs.Common.{◌∷◌, ap, ◌∙◌, ◌%◌, arith}
use Rattle.std.specs.Fmt.{styled_decimal}
use Rattle.demo_tree.proofs.building.DigitLemmas.{two_digits}
use Rattle.demo_tree.proofs.building.folder_path.Goals as goal

pub returns : goal.returns
returns c =
    c.in_ok-format.ensures.ok
    ∙ ap (λ s. 47 ∷ 100 ∷ 101 ∷ 109 ∷ 111 ∷ 47 ∷ 100 ∷ styled_decimal s (c.args.i % 16)) c.laid_out.ensures
    ∙ ap (λ ds. 47 ∷ 100 ∷ 101 ∷ 109 ∷ 111 ∷ 47 ∷ 100 ∷ ds) (two_digits (c.args.i % 16) (omega arith))
