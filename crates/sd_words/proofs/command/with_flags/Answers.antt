use Rattle.std.proofs.Common.{◌≡◌, refl}
use Rattle.std.specs.Prelude.{codes}
use Rattle.std.proofs.lemmas.Result.{IfOk-weaker}
use Rattle.clap.specs.Words.{App, Rule, app_of, with_rule}
use Rattle.sd_words.specs.Command as form
use Rattle.sd_words.proofs.command.CommandLemmas.{IsArg, added}
use Rattle.sd_words.proofs.command.with_flags.Goals as goal

-- Each term is written out: what is to be found by comparing commands takes long.
pub returns : goal.returns
returns c =
    let one : Rule = form.flag (codes "preview") 112 in
    let two : Rule = form.flag (codes "fixed-strings") 70 in
    let three : Rule = form.flag (codes "string-mode") 115 in
    let four : Rule = form.flag (codes "line-mode") 108 in
    let preview : IsArg c.flag-preview.result one = record { rule = c.flag-preview.ensures.rule; local = c.flag-preview.ensures.local } in
    let fixed_strings : IsArg c.flag-fixed_strings.result two = record { rule = c.flag-fixed_strings.ensures.rule; local = c.flag-fixed_strings.ensures.local } in
    let string_mode : IsArg c.flag-string_mode.result three = record { rule = c.flag-string_mode.ensures.rule; local = c.flag-string_mode.ensures.local } in
    let line_mode : IsArg c.flag-line_mode.result four = record { rule = c.flag-line_mode.ensures.rule; local = c.flag-line_mode.ensures.local } in
    let start : App = app_of c.args.command in
    let first : app_of c.in_ok-arg.field-0 ≡ with_rule start one =
    added c.args.command c.in_ok-arg.field-0 c.flag-preview.result start one c.in_ok-arg.ensures refl preview in
    let second : app_of c.in_ok-arg-2.field-0 ≡ with_rule (with_rule start one) two =
    added c.in_ok-arg.field-0 c.in_ok-arg-2.field-0 c.flag-fixed_strings.result (with_rule start one) two c.in_ok-arg-2.ensures first fixed_strings in
    let third : app_of c.in_ok-arg-3.field-0 ≡ with_rule (with_rule (with_rule start one) two) three =
    added c.in_ok-arg-2.field-0 c.in_ok-arg-3.field-0 c.flag-string_mode.result (with_rule (with_rule start one) two) three c.in_ok-arg-3.ensures second string_mode in
    IfOk-weaker c.arg-4.result _ _ (λ d h. added c.in_ok-arg-3.field-0 d c.flag-line_mode.result (with_rule (with_rule (with_rule start one) two) three) four h third line_mode) c.arg-4.ensures
