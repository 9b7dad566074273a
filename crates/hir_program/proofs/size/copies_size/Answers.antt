use Rattle.std.proofs.Common.{◌≡◌, ◌+◌, ◌-◌, ◌*◌, ◌^◌, min, ap, ◌∙◌, arith}
use Rattle.hir_tree.specs.Core.{numbers}
use Rattle.hir_tree.proofs.CoreNumbersLemmas.{copies_numbers}
use Rattle.hir_program.proofs.size.SizeLemmas.{cut_product}
use Rattle.hir_program.proofs.size.copies_size.Goals as goal

pub returns : goal.returns
returns c a b part rest =
    let each : c.saturating_add.result ≡ min (c.args.size + 1) (2 ^ 64 - 1) = omega arith in
    let all : c.saturating_mul.result ≡ min (c.args.count * (numbers a + 1)) (2 ^ 64 - 1) =
    c.saturating_mul.ensures ∙ ap (λ n. min (c.args.count * n) (2 ^ 64 - 1)) each ∙ cut_product c.args.count (numbers a) c.args.size 1 (2 ^ 64 - 1) part in
    omega (arith, all, c.saturating_add-2.ensures, copies_numbers c.args.count a b, rest)
