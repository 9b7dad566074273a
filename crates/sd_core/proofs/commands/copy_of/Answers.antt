use Rattle.sd_core.proofs.app.AppLemmas.{copied_next}
use Rattle.sd_core.proofs.commands.copy_of.Goals as goal

pub loop-i-preserved : goal.loop-i-preserved
loop-i-preserved c =
    copied_next c.args.words.now c.loop-i.i c.loop-i.copy c.push.new.self c.get.result.now c.get.ensures.same c.loop-i.invariant c.in_ok-push.ensures.pushed
