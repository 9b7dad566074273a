use Rattle.std.proofs.Common.{◌≡◌, refl}
use Rattle.std.specs.Prelude.{Some, None, codes}
use Rattle.std.proofs.lemmas.Result.{IfOk-weaker}
use Rattle.clap.specs.Words.{App, Rule, app_of, with_rule}
use Rattle.sd_words.specs.Command as form
use Rattle.sd_words.proofs.command.CommandLemmas.{IsArg, added, short_arg}
use Rattle.sd_words.proofs.command.with_options.Goals as goal

-- Each term is written out: what is to be found by comparing commands takes long.
pub returns : goal.returns
returns c =
    let limit : IsArg c.option.result (form.option (codes "max-replacements") None) = record { rule = c.option.ensures.rule; local = c.option.ensures.local } in
    let flags : IsArg c.option-2.result (form.option (codes "flags") None) = record { rule = c.option-2.ensures.rule; local = c.option-2.ensures.local } in
    let root : IsArg c.option-root.result (form.option (codes "root") None) = record { rule = c.option-root.ensures.rule; local = c.option-root.ensures.local } in
    let demo : IsArg c.option-demo.result (form.option (codes "demo") None) = record { rule = c.option-demo.ensures.rule; local = c.option-demo.ensures.local } in
    let apply : IsArg c.option-apply.result (form.option (codes "apply") None) = record { rule = c.option-apply.ensures.rule; local = c.option-apply.ensures.local } in
    let ignore : IsArg c.option-ignore.result (form.option (codes "ignore") None) = record { rule = c.option-ignore.ensures.rule; local = c.option-ignore.ensures.local } in
    let one : Rule = form.option (codes "max-replacements") (Some 110) in
    let two : Rule = form.option (codes "flags") (Some 102) in
    let three : Rule = form.option (codes "root") None in
    let four : Rule = form.option (codes "demo") None in
    let five : Rule = form.option (codes "apply") None in
    let six : Rule = form.option (codes "ignore") None in
    let start : App = app_of c.args.command in
    let first : app_of c.in_ok-arg.field-0 ≡ with_rule start one =
    added c.args.command c.in_ok-arg.field-0 c.short-limit.result start one c.in_ok-arg.ensures refl (short_arg c.option.result c.short-limit.result 110 (form.option (codes "max-replacements") None) limit c.short-limit.ensures) in
    let second : app_of c.in_ok-arg-2.field-0 ≡ with_rule (with_rule start one) two =
    added c.in_ok-arg.field-0 c.in_ok-arg-2.field-0 c.short-flags.result (with_rule start one) two c.in_ok-arg-2.ensures first (short_arg c.option-2.result c.short-flags.result 102 (form.option (codes "flags") None) flags c.short-flags.ensures) in
    let third : app_of c.in_ok-arg-3.field-0 ≡ with_rule (with_rule (with_rule start one) two) three =
    added c.in_ok-arg-2.field-0 c.in_ok-arg-3.field-0 c.option-root.result (with_rule (with_rule start one) two) three c.in_ok-arg-3.ensures second root in
    let fourth : app_of c.in_ok-arg-4.field-0 ≡ with_rule (with_rule (with_rule (with_rule start one) two) three) four =
    added c.in_ok-arg-3.field-0 c.in_ok-arg-4.field-0 c.option-demo.result (with_rule (with_rule (with_rule start one) two) three) four c.in_ok-arg-4.ensures third demo in
    let fifth : app_of c.in_ok-arg-5.field-0 ≡ with_rule (with_rule (with_rule (with_rule (with_rule start one) two) three) four) five =
    added c.in_ok-arg-4.field-0 c.in_ok-arg-5.field-0 c.option-apply.result (with_rule (with_rule (with_rule (with_rule start one) two) three) four) five c.in_ok-arg-5.ensures fourth apply in
    IfOk-weaker c.arg-6.result _ _ (λ d h. added c.in_ok-arg-5.field-0 d c.option-ignore.result (with_rule (with_rule (with_rule (with_rule (with_rule start one) two) three) four) five) six h fifth ignore) c.arg-6.ensures
