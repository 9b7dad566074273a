use Rattle.std.proofs.Common.{◌≡◌, ◌∷◌, ◌++◌, ap, ◌∙◌, ◌%◌, arith}
use Rattle.std.specs.Fmt.{styled_decimal}
use Rattle.demo_tree.specs.Demo.{digits_of}
use Rattle.demo_tree.proofs.building.DigitLemmas.{two_digits, eight_digits}
use Rattle.demo_tree.proofs.building.file_path.Goals as goal

pub returns : goal.returns
returns c =
    let folder : styled_decimal c.laid_out.result (c.args.i % 16) ≡ digits_of (c.args.i % 16) 2 =
    ap (λ s. styled_decimal s (c.args.i % 16)) c.laid_out.ensures ∙ two_digits (c.args.i % 16) (omega arith) in
    let number : styled_decimal c.laid_out-2.result c.args.i ≡ digits_of c.args.i 8 =
    ap (λ s. styled_decimal s c.args.i) c.laid_out-2.ensures ∙ eight_digits c.args.i (omega arith) in
    c.in_ok-format.ensures.ok ∙ (λ k. 47 ∷ 100 ∷ 101 ∷ 109 ∷ 111 ∷ 47 ∷ 100 ∷ (folder k ++ 47 ∷ 102 ∷ (number k ++ c.ending-ending.ensures k)))
