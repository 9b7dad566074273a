use Rattle.std.proofs.Common.{◌∙◌, sym, ap}
use Rattle.mem_io.specs.Log.{after}
use Rattle.mem_io.proofs.outcome_table.TableLemmas.{noted_more}
use Rattle.mem_io.proofs.outcome_table.OutcomeTable.after.Goals as goal

pub loop-change-preserved : goal.loop-change-preserved
loop-change-preserved c = c.in_ok-note.ensures ∙ ap (after c.change-item.result) c.loop-change.invariant ∙ sym (noted_more _ _ _ c.change-item.result c.loop-change-test.true c.change-item.is)
