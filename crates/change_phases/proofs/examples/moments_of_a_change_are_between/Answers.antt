use Rattle.change_phases.proofs.ExampleLemmas.{is_work, is_journal, before_is, one_stage_is, two_stages_is, named_journal_is, one_placed_is, two_placed_is, removed_journal_is, all_done_is}
use Rattle.change_phases.proofs.examples.moments_of_a_change_are_between.Goals as goal

pub returns-clause-work : goal.returns-clause-work
returns-clause-work c = is_work

pub returns-clause-journal : goal.returns-clause-journal
returns-clause-journal c = is_journal

pub returns-clause-before : goal.returns-clause-before
returns-clause-before c = before_is

pub returns-clause-one_stage : goal.returns-clause-one_stage
returns-clause-one_stage c = one_stage_is

pub returns-clause-two_stages : goal.returns-clause-two_stages
returns-clause-two_stages c = two_stages_is

pub returns-clause-named_journal : goal.returns-clause-named_journal
returns-clause-named_journal c = named_journal_is

pub returns-clause-one_placed : goal.returns-clause-one_placed
returns-clause-one_placed c = one_placed_is

pub returns-clause-two_placed : goal.returns-clause-two_placed
returns-clause-two_placed c = two_placed_is

pub returns-clause-removed_journal : goal.returns-clause-removed_journal
returns-clause-removed_journal c = removed_journal_is

pub returns-clause-all_done : goal.returns-clause-all_done
returns-clause-all_done c = all_done_is
