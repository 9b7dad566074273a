use Rattle.std.proofs.Common.{◌≡◌, refl, true}
use Rattle.std.specs.Prelude.{Some, codes}
use Rattle.std.proofs.lemmas.Result.{IfOk-weaker}
use Rattle.clap.specs.Words.{App, Rule, app_of, with_rule}
use Rattle.clap.specs.declared.builder.action.ArgAction.TheVariants.{Append}
use Rattle.sd_words.specs.Command as form
use Rattle.sd_words.proofs.command.CommandLemmas.{IsArg, acting_arg, added, required_arg}
use Rattle.sd_words.proofs.command.with_words.Goals as goal

-- Each term is written out: what is to be found by comparing commands takes long.
pub returns : goal.returns
returns c =
    let find : IsArg c.word.result (form.word (codes "find")) = record { rule = c.word.ensures.rule; local = c.word.ensures.local } in
    let replace_with : IsArg c.word-2.result (form.word (codes "replace-with")) = record { rule = c.word-2.ensures.rule; local = c.word-2.ensures.local } in
    let words : IsArg c.word-3.result (form.word (codes "words")) = record { rule = c.word-3.ensures.rule; local = c.word-3.ensures.local } in
    let one : Rule = record (form.word (codes "find")) { required = true } in
    let two : Rule = record (form.word (codes "replace-with")) { required = true } in
    let three : Rule = record (form.word (codes "words")) { action = Some Append } in
    let start : App = app_of c.args.command in
    let first : app_of c.in_ok-arg.field-0 ≡ with_rule start one =
    added c.args.command c.in_ok-arg.field-0 c.required-find.result start one c.in_ok-arg.ensures refl
    (required_arg c.word.result c.required-find.result true (form.word (codes "find")) find c.required-find.ensures) in
    let second : app_of c.in_ok-arg-2.field-0 ≡ with_rule (with_rule start one) two =
    added c.in_ok-arg.field-0 c.in_ok-arg-2.field-0 c.required-replace_with.result (with_rule start one) two c.in_ok-arg-2.ensures first
    (required_arg c.word-2.result c.required-replace_with.result true (form.word (codes "replace-with")) replace_with c.required-replace_with.ensures) in
    IfOk-weaker c.arg-3.result _ _
    (λ d h. added c.in_ok-arg-2.field-0 d c.action-words.result (with_rule (with_rule start one) two) three h second
    (acting_arg c.word-3.result c.action-words.result Append (form.word (codes "words")) words c.action-words.ensures))
    c.arg-3.ensures
