use Rattle.std.proofs.Common.{◌≡◌, ◌+◌, ◌-◌, ◌*◌, ◌^◌, min, ap, ◌∙◌, arith}
use Rattle.hir_tree.specs.Core.{numbers}
use Rattle.hir_program.proofs.size.SizeLemmas.{cut_product, up_to_counted}
use Rattle.hir_program.proofs.size.up_to_size.Goals as goal

pub returns : goal.returns
returns c greedy a part =
    let each : c.saturating_add.result ≡ min (c.args.size + 3) (2 ^ 64 - 1) = omega arith in
    let all : c.saturating_mul.result ≡ min ((c.args.count - 1) * (numbers a + 3)) (2 ^ 64 - 1) =
    c.saturating_mul.ensures ∙ ap (λ n. min ((c.args.count - 1) * n) (2 ^ 64 - 1)) each ∙ cut_product (c.args.count - 1) (numbers a) c.args.size 3 (2 ^ 64 - 1) part in
    omega (arith, all, c.saturating_add-2.ensures, c.saturating_add-3.ensures, up_to_counted greedy c.args.count a c.requires, part)
