use Rattle.std.proofs.Common.{◌≡◌, ◌<◌, ◌∙◌, ◌^◌, length, chars, subst, arith, rules, Err}
use Rattle.std.proofs.lemmas.Str.{chars_from_encodes}
use Rattle.pattern_core.specs.Answers.{flags_of}
use Rattle.pattern_core.specs.Parsing.{Finds, IsWhole}
use Rattle.pattern_core.specs.declared.fault.PatternFault.TheVariants as fault
use Rattle.pattern_core.proofs.parsing.AnswerLemmas.{error_is, grammar_refused, nests_deep, names_one_twice, is_pattern}
use Rattle.pattern_core.proofs.parsing.parse.Goals as goal

pub returns-in_err-whole-clause-grammar : goal.returns-in_err-whole-clause-grammar
returns-in_err-whole-clause-grammar c is =
    let text = c.args.text.now in
    let limit = c.min-limit.result in
    let cs = c.deref.result.now in
    let characters : c.in_ok-characters.characters.items ≡ chars text = search (rules, chars_from_encodes) in
    let short : length text < 2 ^ 32 = omega arith in
    let e = c.in_err-whole.field-0.0 in
    let refused : IsWhole limit cs (flags_of c.args.flags.now) (Err e) = subst (λ k. IsWhole limit cs k (Err e)) c.grammar.ensures c.in_err-whole.ensures in
    grammar_refused c.args.flags.now text cs limit short (c.deref.ensures.value ∙ characters) c.min-limit.ensures e refused
    (error_is c.from_residual-in_err-whole.result e fault.Grammar c.from_residual-in_err-whole.ensures.1 is)

pub returns-then-whole-limit-clause-nest : goal.returns-then-whole-limit-clause-nest
returns-then-whole-limit-clause-nest c e =
    let text = c.args.text.now in
    let limit = c.min-limit.result in
    let cs = c.deref.result.now in
    let characters : c.in_ok-characters.characters.items ≡ chars text = search (rules, chars_from_encodes) in
    let short : length text < 2 ^ 32 = omega arith in
    let whole = c.in_ok-whole.whole in
    let finds : Finds limit cs (flags_of c.args.flags.now) whole = subst (λ k. Finds limit cs k whole) c.grammar.ensures c.in_ok-whole.ensures in
    nests_deep c.args.flags.now text cs limit short (c.deref.ensures.value ∙ characters) c.min-limit.ensures whole finds c.if-whole-limit.true

pub returns-then-whole-clause-double_name : goal.returns-then-whole-clause-double_name
returns-then-whole-clause-double_name c e =
    let text = c.args.text.now in
    let limit = c.min-limit.result in
    let cs = c.deref.result.now in
    let characters : c.in_ok-characters.characters.items ≡ chars text = search (rules, chars_from_encodes) in
    let short : length text < 2 ^ 32 = omega arith in
    let whole = c.in_ok-whole.whole in
    let finds : Finds limit cs (flags_of c.args.flags.now) whole = subst (λ k. Finds limit cs k whole) c.grammar.ensures c.in_ok-whole.ensures in
    names_one_twice c.args.flags.now text cs limit short (c.deref.ensures.value ∙ characters) c.min-limit.ensures whole finds c.if-whole-limit.false c.if-whole.true

pub returns-clause-pattern : goal.returns-clause-pattern
returns-clause-pattern c =
    let text = c.args.text.now in
    let limit = c.min-limit.result in
    let cs = c.deref.result.now in
    let characters : c.in_ok-characters.characters.items ≡ chars text = search (rules, chars_from_encodes) in
    let short : length text < 2 ^ 32 = omega arith in
    let whole = c.in_ok-whole.whole in
    let finds : Finds limit cs (flags_of c.args.flags.now) whole = subst (λ k. Finds limit cs k whole) c.grammar.ensures c.in_ok-whole.ensures in
    is_pattern c.args.flags.now text cs limit short (c.deref.ensures.value ∙ characters) c.min-limit.ensures whole finds c.if-whole-limit.false c.if-whole.false
