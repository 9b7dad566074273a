use Rattle.std.proofs.Common.{◌≡◌, true, false, IfErr, sym, ◌∙◌, subst}
use Rattle.std.specs.Str.{chars, IsUtf8}
use Rattle.pattern_core.specs.Escape.{encoded, escaped_text}
use Rattle.grep_regex.specs.ReadSoFar.{IsPatternRefused}
use Rattle.grep_regex.proofs.reading.AnswerLemmas.{refused_of, plain_fit, escaped_fit, written_by}
use Rattle.grep_regex.proofs.reading.parse_written.Goals as goal

pub returns-then-options-clause-numbers : goal.returns-then-options-clause-numbers
returns-then-options-clause-numbers c =
    let bytes = c.as_str.result.now in
    let is : bytes ≡ encoded (escaped_text (chars c.args.text.now)) = c.as_str.ensures.same ∙ c.in_ok-escaped.ensures in
    escaped_fit c.args.flags.now c.args.text.now bytes c.parse.result c.utf8.text (subst IsUtf8 (sym c.as_str.ensures.same) c.as_str.ensures.text) is c.parse.ensures.pattern

pub returns-then-options-clause-refused : goal.returns-then-options-clause-refused
returns-then-options-clause-refused c =
    let bytes = c.as_str.result.now in
    let is : bytes ≡ encoded (escaped_text (chars c.args.text.now)) = c.as_str.ensures.same ∙ c.in_ok-escaped.ensures in
    subst (λ bytes. IfErr c.parse.result (IsPatternRefused c.args.flags.now bytes)) (is ∙ sym (written_by c.args.options.now c.args.text.now true c.if-options.true))
    (refused_of c.args.flags.now bytes c.parse.result c.parse.ensures.grammar c.parse.ensures.nest c.parse.ensures.double_name)

pub returns-clause-numbers : goal.returns-clause-numbers
returns-clause-numbers c = plain_fit c.args.flags.now c.args.text.now c.parse-2.result c.utf8.text c.parse-2.ensures.pattern

pub returns-clause-refused : goal.returns-clause-refused
returns-clause-refused c =
    subst (λ bytes. IfErr c.parse-2.result (IsPatternRefused c.args.flags.now bytes)) (sym (written_by c.args.options.now c.args.text.now false c.if-options.false))
    (refused_of c.args.flags.now c.args.text.now c.parse-2.result c.parse-2.ensures.grammar c.parse-2.ensures.nest c.parse-2.ensures.double_name)
