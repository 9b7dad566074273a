use Rattle.std.proofs.Common.{refl, sym, ◌∙◌, ◌+◌}
use Rattle.std.proofs.lemmas.List.{take_rest}
use Rattle.sd_replace.proofs.ambiguous.AmbiguousLemmas.{step_on}
use Rattle.sd_replace.proofs.ambiguous.first_ambiguous.Goals as goal

pub loop-at-preserved : goal.loop-at-preserved
loop-at-preserved c =
    step_on c.args.text.now _ c.name_behind-name.result.now c.loop-at.at 0 c.read_behind.result _ c.loop-at-test.true (take_rest c.args.text.now (c.loop-at.at + 1))
    c.name_behind-name.ensures.name c.read_behind.ensures.read (sym c.is_ambiguous.ensures ∙ c.if-is_ambiguous.false) refl c.loop-at.invariant
