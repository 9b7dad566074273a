use Rattle.std.proofs.Common.{◌∙◌}
use Rattle.sd_io.specs.Outcomes.{put, built}
use Rattle.mem_io.specs.OutcomeTable.{told_outcomes}
use Rattle.mem_io.proofs.outcome_table.OutcomeTable.new.Goals as goal

pub returns : goal.returns
returns c = c.in_ok-build.ensures ∙ (λ i. put (c.top.ensures i) (built (c.new-top.ensures i)) (told_outcomes (c.new.ensures.empty i)))
