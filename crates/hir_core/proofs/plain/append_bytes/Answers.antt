use Rattle.hir_core.proofs.plain.PlainTextLemmas.{byte-appended}
use Rattle.hir_core.proofs.plain.append_bytes.Goals as goal

pub loop-i-preserved : goal.loop-i-preserved
loop-i-preserved c =
    byte-appended c.args.bytes.now.items c.loop-i.bytes.items c.push.new.self.items c.args.literal.now c.loop-i.i c.get.result c.get.ensures c.loop-i.invariant
    c.in_ok-push.ensures.items
