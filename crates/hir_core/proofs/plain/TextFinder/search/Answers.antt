use Rattle.std.proofs.Common.{◌-◌, Some, length}
use Rattle.hir_tree.specs.PlainText.{text_groups}
use Rattle.hir_core.proofs.plain.PlainTextLemmas.{groups-least, whole-spans}
use Rattle.hir_core.proofs.plain.TextFinder.search.Goals as goal

pub returns-in-Some-clause-found : goal.returns-in-Some-clause-found
returns-in-Some-clause-found c =
    let groups = length c.args.slots.now - 1 in (
      text_groups c.args.self.now groups c.in-Some.start,
      groups-least c.args.self.now groups c.args.text.now c.args.at (length c.args.text.now) (Some c.in-Some.start) c.in-Some.ensures.least,
      whole-spans c.args.self.now c.bytes.result.now (length c.args.slots.now) c.in-Some.start c.set_whole.new.self c.requires c.bytes.ensures c.set_whole.ensures,
    )
