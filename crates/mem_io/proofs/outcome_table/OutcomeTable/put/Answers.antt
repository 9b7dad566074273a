use Rattle.std.proofs.Common.{◌∙◌, ap}
use Rattle.sd_io.specs.Tree.{NameList}
use Rattle.sd_io.specs.Outcomes.{put}
use Rattle.mem_io.specs.OutcomeTable.{outcomes_of}
use Rattle.mem_io.proofs.outcome_table.TableLemmas.{put_told}
use Rattle.mem_io.proofs.outcome_table.OutcomeTable.put.Goals as goal

pub returns : goal.returns
returns c = put_told _ _ _ _ c.in_ok-insert.ensures.updates.0 ∙ ap (λ (p : NameList). put p c.args.list (outcomes_of c.args.self.now)) c.in_ok-try_clone.ensures
