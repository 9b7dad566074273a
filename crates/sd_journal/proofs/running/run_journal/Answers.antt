use Rattle.sd_journal.proofs.running.RunLemmas.{carried, not_asked}
use Rattle.sd_journal.proofs.running.TellLemmas.{end_told}
use Rattle.sd_journal.proofs.running.run_journal.Goals as goal

pub returns-in-Ok-clause-runs : goal.returns-in-Ok-clause-runs
returns-in-Ok-clause-runs g c =
    carried _ _ _ _ _ (λ root asks. not_asked _ c.if-asks_recovery.false (c.asks_recovery.ensures.only root asks)) c.in-Ok.options c.in-Ok.ensures.read c.carry_out-why.result _ c.end_with-in-Ok.ensures.why
    c.carry_out-why.ensures

pub returns-in-Err-clause-err_told : goal.returns-in-Err-clause-err_told
returns-in-Err-clause-err_told g c = λ other. c.refuse.ensures.told

pub returns-in-Ok-clause-err_told : goal.returns-in-Ok-clause-err_told
returns-in-Ok-clause-err_told g c = end_told _ c.carry_out-why.result _ c.end_with-in-Ok.ensures.why c.end_with-in-Ok.ensures.told
