use Rattle.std.proofs.Common.{None, length}
use Rattle.hir_core.proofs.plain.PlainTextLemmas.{span-least, span-least_shown}
use Rattle.hir_core.proofs.plain.TextFinder.find_span.Goals as goal

pub returns-in-None : goal.returns-in-None
returns-in-None c = span-least c.args.self.now c.args.text.now c.args.at (length c.args.text.now) None c.in-None.ensures.least

pub returns-in-Some : goal.returns-in-Some
returns-in-Some c =
    span-least_shown c.args.self.now c.bytes.result.now c.args.text.now c.args.at (length c.args.text.now) c.in-Some.start c.new.result c.bytes.ensures
    c.new.ensures.starts c.new.ensures.ends c.in-Some.ensures.least
