use Rattle.pattern_core.proofs.parsing.StateLemmas.{sets_opened, plain_opened, numbered_opened, named_opened}
use Rattle.pattern_core.proofs.parsing.state.State.opened.Goals as goal

pub returns-in-Sets-clause-is : goal.returns-in-Sets-clause-is
returns-in-Sets-clause-is c =
    sets_opened c.args.self c.args.opening c.in-Sets.flags c.empty.result c.item.result c.in-Sets.is c.empty.ensures c.item.ensures.is

pub returns-in-Plain-clause-is : goal.returns-in-Plain-clause-is
returns-in-Plain-clause-is c = plain_opened c.args.self c.args.opening c.in-Plain.flags c.args.next c.enter.result c.in-Plain.is c.enter.ensures

pub returns-in-Numbered-clause-is : goal.returns-in-Numbered-clause-is
returns-in-Numbered-clause-is c =
    numbered_opened c.args.self c.args.opening c.args.next c.enter_capturing.result c.in-Numbered.is c.enter_capturing.ensures

pub returns-in_ok-add-in-Named-clause-is : goal.returns-in_ok-add-in-Named-clause-is
returns-in_ok-add-in-Named-clause-is c =
    named_opened c.args.self c.args.opening c.add.new.self c.in-Named.name c.args.next c.enter_capturing-in-Named.result c.in-Named.is
    c.in_ok-add-in-Named.ensures c.enter_capturing-in-Named.ensures
