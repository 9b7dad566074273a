use Rattle.std.proofs.Common.{◌-◌, ◌^◌, ◌≡◌, min, ap, ◌∙◌, arith}
use Rattle.hir_tree.specs.Core.{numbers, up_to}
use Rattle.hir_program.proofs.size.SizeLemmas.{copies_alone, copies_more}
use Rattle.hir_program.proofs.size.repeated_size.Goals as goal

pub returns-in-0-2 : goal.returns-in-0-2
returns-in-0-2 c greedy a part =
    rw c.in-Some.is (c.copies_size-in-0-2.ensures a a part part
    ∙ ap (λ core. min (numbers core) (2 ^ 64 - 1)) (copies_alone greedy c.args.least (c.in-Some.most - c.args.least) a (omega arith) (omega arith)))

pub returns-in_default : goal.returns-in_default
returns-in_default c greedy a part =
    let more : c.saturating_sub.result ≡ c.in-Some.most - c.args.least = omega arith in
    rw (c.in-Some.is, ← more)
    (c.copies_size-in_default.ensures a (up_to greedy c.saturating_sub.result a) part (c.up_to_size.ensures greedy a part)
    ∙ ap (λ core. min (numbers core) (2 ^ 64 - 1)) (copies_more greedy c.args.least c.saturating_sub.result a (omega arith)))
