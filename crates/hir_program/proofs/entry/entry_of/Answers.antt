use Rattle.std.proofs.Common.{refl, sym, ◌∙◌}
use Rattle.hir_program.specs.declared.spot.Spot.TheVariants as spot
use Rattle.hir_program.proofs.entry.EntryLemmas.{entry-open, entry-jump}
use Rattle.hir_program.proofs.entry.entry_of.Goals as goal

pub returns-in-Some-Jump : goal.returns-in-Some-Jump
returns-in-Some-Jump c =
    entry-jump c.args.spots.now c.in-Some-Open.next (sym (c.in-Some-Open.ensures.lookup.3.1 spot.Fail) ∙ c.in-Some-Open.field-0-is)
    c.if-next-eq0.false (c.if-not-is_behind_first.ensures refl)
    c.in-Some-Jump.behind (sym (c.in-Some-Jump.ensures.lookup.3.1 spot.Fail) ∙ c.in-Some-Jump.field-0-is) (c.if-is_behind_first.ensures refl)

pub returns-in_default-get : goal.returns-in_default-get
returns-in_default-get c =
    entry-open c.args.spots.now c.in-Some-Open.next (sym (c.in-Some-Open.ensures.lookup.3.1 spot.Fail) ∙ c.in-Some-Open.field-0-is)
    c.if-next-eq0.false (c.if-not-is_behind_first.ensures refl)

pub returns-in_default-get-2 : goal.returns-in_default-get-2
returns-in_default-get-2 c =
    entry-open c.args.spots.now c.in-Some-Open.next (sym (c.in-Some-Open.ensures.lookup.3.1 spot.Fail) ∙ c.in-Some-Open.field-0-is)
    c.if-next-eq0.false (c.if-not-is_behind_first.ensures refl)

pub returns-in_default-get-3 : goal.returns-in_default-get-3
returns-in_default-get-3 c =
    entry-open c.args.spots.now c.in-Some-Open.next (sym (c.in-Some-Open.ensures.lookup.3.1 spot.Fail) ∙ c.in-Some-Open.field-0-is)
    c.if-next-eq0.false (c.if-not-is_behind_first.ensures refl)
