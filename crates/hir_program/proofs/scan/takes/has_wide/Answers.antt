use Rattle.std.proofs.Common.{sym, ◌∙◌, arith}
use Rattle.std.proofs.lemmas.Option.{get_or_from_slice_get}
use Rattle.hir_program.proofs.scan.takes.SetLemmas.{has_wide-here, has_wide-later, has_wide-end}
use Rattle.hir_program.proofs.scan.takes.has_wide.Goals as goal

pub returns-then-get-gt127 : goal.returns-then-get-gt127
returns-then-get-gt127 c =
    let set = c.args.set.now in
    let range = c.get.result in
    let is = sym (get_or_from_slice_get set c.loop-i.i range range c.get.ensures) in
    sym (has_wide-here set c.loop-i.i range (omega (arith, c.len-i-end.ensures.len)) is (omega arith)) ∙ c.loop-i.invariant

pub loop-i-preserved : goal.loop-i-preserved
loop-i-preserved c =
    let set = c.args.set.now in
    let range = c.get.result in
    let is = sym (get_or_from_slice_get set c.loop-i.i range range c.get.ensures) in
    sym (has_wide-later set c.loop-i.i range (omega (arith, c.len-i-end.ensures.len)) is (omega arith)) ∙ c.loop-i.invariant

pub returns : goal.returns
returns c = sym (has_wide-end c.args.set.now c.loop-i.i (omega (arith, c.len-i-end.ensures.len))) ∙ c.loop-i.invariant
