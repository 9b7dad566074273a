use Rattle.sd_replace.proofs.changing.ChangingLemmas.{first_found, first_stands}
use Rattle.sd_replace.proofs.replacer.Replacer.find_first.Goals as goal

pub returns-clause-found : goal.returns-clause-found
returns-clause-found c =
    first_found c.args.self.now c.args.content.now c.args.search.now c.next.new.self c.requires.start c.next.result c.next.ensures.found

pub returns-clause-stands : goal.returns-clause-stands
returns-clause-stands c =
    let next = c.next.ensures in
    first_stands c.args.self.now c.args.content.now c.args.search.now c.next.new.self c.requires.start c.next.result next.found next.after next.last next.groups next.pattern
