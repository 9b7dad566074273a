use Rattle.sd_words.proofs.options.TextLemmas.{lent_next}
use Rattle.sd_words.proofs.options.lent.Goals as goal

pub loop-i-preserved : goal.loop-i-preserved
loop-i-preserved c = lent_next c.args.words.now c.loop-i.i c.loop-i.texts.items c.push.new.self.items c.get.result c.get.ensures.same c.loop-i.invariant c.in_ok-push.ensures.items
