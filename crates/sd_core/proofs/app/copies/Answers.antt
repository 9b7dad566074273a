use Rattle.std.proofs.Common.{◌∙◌, ap, [], ◌∷◌, ◌++◌}
use Rattle.sd_core.proofs.app.AppLemmas.{copied_next}
use Rattle.sd_core.proofs.app.copies.Goals as goal

pub loop-i-preserved : goal.loop-i-preserved
loop-i-preserved c =
    copied_next c.args.words.now c.loop-i.i c.loop-i.copies.items c.push.new.self.items c.get.result.now c.get.ensures.same c.loop-i.invariant
    (c.in_ok-push.ensures.items ∙ ap (λ word. c.loop-i.copies.items ++ word ∷ []) c.in_ok-new.ensures)
