use Rattle.std.proofs.Common.{◌∙◌, rules, tests}
use Rattle.std.proofs.lemmas.Iterator.{YieldsList-from_slice}
use Rattle.std.proofs.lemmas.Iterator.Consumers.{YieldsList-from_filter, count_from_yields_List}
use Rattle.walk_rest.specs.declared.level.Level.{Level}
use Rattle.walk_steps.proofs.open.OpenLemmas.{is_open_list, counted}
use Rattle.walk_steps.proofs.open.count_open.Goals as goal

pub returns : goal.returns
returns c =
    count_from_yields_List c.filter.result c.count.result c.count.ensures.ran
    (YieldsList-from_filter {s = c.filter.result} _ (λ (level : Level). is_open_list level.entries) (YieldsList-from_slice {s = c.filter.result.iter} c.args.levels.now cc) c.filter.ensures.closure (λ x b q k. search (rules, tests)))
    ∙ counted c.args.levels.now
