use Rattle.std.proofs.Common.{◌∙◌, ap, refl, sym}
use Rattle.sd_core.specs.Run.{status_of}
use Rattle.sd_core.proofs.top.RunLemmas.{none_carries, is_usage, usage_asks_nothing, none_done, not_done, done, carries_so, none_unordered, usage_so, of_tree, headline_so}
use Rattle.sd_core.proofs.top.TellLemmas.{words_told, end_told}
use Rattle.sd_core.proofs.top.run.Goals as goal

-- ---- the words ask for nothing that can be done

pub returns-in-Err-clause-headline : goal.returns-in-Err-clause-headline
returns-in-Err-clause-headline g c = λ told order root asks on_tree zero. absurd (none_done _ _ c.in-Err.ensures.read _ c.refuse.ensures.why _ c.refuse.ensures.status zero)

pub returns-in-Err-clause-status : goal.returns-in-Err-clause-status
returns-in-Err-clause-status g c = c.refuse.ensures.status

pub returns-in-Err-clause-usage : goal.returns-in-Err-clause-usage
returns-in-Err-clause-usage g c = usage_asks_nothing _ _ c.in-Err.ensures.read _ c.refuse.ensures.why

pub returns-in-Err-clause-no_order : goal.returns-in-Err-clause-no_order
returns-in-Err-clause-no_order g c = λ none. (is_usage _ _ c.in-Err.ensures.read _ c.refuse.ensures.why, refl, refl, refl)

pub returns-in-Err-clause-carries : goal.returns-in-Err-clause-carries
returns-in-Err-clause-carries g c = none_carries _ _ c.in-Err.ensures.read _ c.refuse.ensures.why _ (refl, refl, refl)

pub returns-in-Err-clause-err_kept : goal.returns-in-Err-clause-err_kept
returns-in-Err-clause-err_kept g c = λ done. absurd (not_done _ _ c.in-Err.ensures.read _ c.refuse.ensures.why done)

pub returns-in-Err-clause-err_told : goal.returns-in-Err-clause-err_told
returns-in-Err-clause-err_told g c = λ other. words_told c.args.words.now _ c.in-Err.fault c.in-Err.ensures.read _ c.refuse.ensures.why c.refuse.ensures.told

-- ---- they ask for something

pub returns-in-Ok-clause-carries : goal.returns-in-Ok-clause-carries
returns-in-Ok-clause-carries g c = carries_so _ c.in-Ok.options c.in-Ok.ensures.read c.carry_out-why.result _ c.end_with.ensures.why _ c.carry_out-why.ensures

pub returns-in-Ok-clause-headline : goal.returns-in-Ok-clause-headline
returns-in-Ok-clause-headline g c = λ told order root asks on_tree zero.
    headline_so _ order root _ (returns-in-Ok-clause-carries g c order asks) (of_tree order root on_tree)
    (c.end_with.ensures.why ∙ done _ c.in-Ok.options c.in-Ok.ensures.read c.carry_out-why.result _ c.end_with.ensures.why _ c.end_with.ensures.status zero) told

pub returns-in-Ok-clause-status : goal.returns-in-Ok-clause-status
returns-in-Ok-clause-status g c = c.end_with.ensures.status ∙ ap status_of (sym c.end_with.ensures.why)

pub returns-in-Ok-clause-usage : goal.returns-in-Ok-clause-usage
returns-in-Ok-clause-usage g c = usage_so _ c.in-Ok.options c.in-Ok.ensures.read c.carry_out-why.result _ c.end_with.ensures.why c.carry_out-why.ensures.ordered

pub returns-in-Ok-clause-no_order : goal.returns-in-Ok-clause-no_order
returns-in-Ok-clause-no_order g c = λ none. absurd (none_unordered _ c.in-Ok.options c.in-Ok.ensures.read c.carry_out-why.result _ c.end_with.ensures.why none)

pub returns-in-Ok-clause-err_kept : goal.returns-in-Ok-clause-err_kept
returns-in-Ok-clause-err_kept g c = λ done. c.end_with.ensures.err_kept (sym c.end_with.ensures.why ∙ done)

pub returns-in-Ok-clause-err_told : goal.returns-in-Ok-clause-err_told
returns-in-Ok-clause-err_told g c = λ other. end_told c.args.words.now _ _ _ c.end_with.ensures.why c.end_with.ensures.told other
