use Rattle.std.proofs.Common.{◌≡◌, rules, sym, subst}
use Rattle.std.specs.List.{filter}
use Rattle.mem_io.specs.OutcomeTable.{outcomes_of, Counts}
use Rattle.mem_io.proofs.outcome_table.TableLemmas.{some_other, counts}
use Rattle.mem_io.proofs.outcome_table.OutcomeTable.counted.Goals as goal

pub returns : goal.returns
returns c =
    let kept : c.in_ok-counted.counted.items ≡ filter some_other c.args.self.lists.entries = search rules in
    subst (Counts (outcomes_of c.args.self)) (sym kept) (counts c.args.self.lists c.into_iter.ensures.into_iter_gives.5)
