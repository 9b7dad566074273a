use Rattle.std.proofs.Common.{sym, ◌∙◌}
use Rattle.hir_program.specs.declared.spot.Spot.TheVariants as spot
use Rattle.hir_program.proofs.loops.SureLemmas.{EndsSurely-match, EndsSurely-close}
use Rattle.hir_program.proofs.loops.ends_surely.Goals as goal

pub returns-in-Some-Match : goal.returns-in-Some-Match
returns-in-Some-Match c ends =
    c.loop.invariant
    (EndsSurely-match c.args.spots.now c.loop.place (sym (c.in-Some-Match.ensures.lookup.3.1 spot.Fail) ∙ c.in-Some-Match.field-0-is))

pub loop-preserved : goal.loop-preserved
loop-preserved c sure =
    c.loop.invariant
    (EndsSurely-close c.args.spots.now c.loop.place _ c.in-Some-Close.next
    (sym (c.in-Some-Close.ensures.lookup.3.1 spot.Fail) ∙ c.in-Some-Close.field-0-is) sure)
