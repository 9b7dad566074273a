use Rattle.std.proofs.Common.{◌≡◌, ◌+◌, drop, sym, ◌∙◌, subst, arith}
use Rattle.pattern_syntax.specs.Syntax.{value}
use Rattle.pattern_syntax.proofs.runs.RunLemmas.{next_is}
use Rattle.pattern_syntax.proofs.repetitions.CountLemmas.{Behind, behind_at, no_first, no_sign, no_second, no_end, exactly_at, at_least_at, between_at}
use Rattle.pattern_syntax.proofs.repetitions.read_braces.Goals as goal

pub returns-in_err-min : goal.returns-in_err-min
returns-in_err-min c =
    rw c.from_residual.ensures
    (λ n t e f.
    no_first (drop (c.args.at + 1) c.args.text.now) c.in_err-min.ensures n t (sym (next_is 123 c.args.text.now c.args.at c.requires).written ∙ e) f)

pub returns-then-is_next : goal.returns-then-is_next
returns-then-is_next c =
    exactly_at c.args.text.now c.args.at c.in_ok-min.place c.in_ok-min.min (next_is 123 c.args.text.now c.args.at c.requires) c.in_ok-min.ensures
    (next_is 125 c.args.text.now c.in_ok-min.place (sym c.is_next.ensures ∙ c.if-is_next.true))

pub returns-then-not-is_next : goal.returns-then-not-is_next
returns-then-not-is_next c = λ n t e f.
    no_sign c.in_ok-min.ensures.number (drop c.in_ok-min.place c.args.text.now) (sym c.is_next.ensures ∙ c.if-is_next.false)
    (sym c.is_next-2.ensures ∙ c.if-not-is_next.true) n t
    (behind_at c.args.text.now c.args.at c.in_ok-min.place c.in_ok-min.min (next_is 123 c.args.text.now c.args.at c.requires) c.in_ok-min.ensures n t e f)

pub returns-then-is_next-2 : goal.returns-then-is_next-2
returns-then-is_next-2 c =
    at_least_at c.args.text.now c.args.at c.in_ok-min.place c.in_ok-min.min (next_is 123 c.args.text.now c.args.at c.requires) c.in_ok-min.ensures
    (next_is 44 c.args.text.now c.in_ok-min.place (sym c.is_next-2.ensures ∙ c.if-not-is_next.false))
    (next_is 125 c.args.text.now (c.in_ok-min.place + 1) (sym c.is_next-3.ensures ∙ c.if-is_next-2.true))

pub returns-in_err-max : goal.returns-in_err-max
returns-in_err-max c =
    rw c.from_residual-in_err-max.ensures
    (λ n t e f.
    no_second c.in_ok-min.ensures.number (drop (c.in_ok-min.place + 1) c.args.text.now) (sym c.is_next-3.ensures ∙ c.if-is_next-2.false) c.in_err-max.ensures n t
    (subst (λ z. Behind n t c.in_ok-min.ensures.number z)
    (next_is 44 c.args.text.now c.in_ok-min.place (sym c.is_next-2.ensures ∙ c.if-not-is_next.false)).written
    (behind_at c.args.text.now c.args.at c.in_ok-min.place c.in_ok-min.min (next_is 123 c.args.text.now c.args.at c.requires) c.in_ok-min.ensures n t e f)))

pub returns-then-max-min : goal.returns-then-max-min
returns-then-max-min c = λ n t e f.
    no_end c.in_ok-min.ensures.number c.in_ok-max.ensures.number (drop (c.in_ok-min.place + 1) c.args.text.now) (drop c.in_ok-max.end c.args.text.now)
    (sym c.is_next-3.ensures ∙ c.if-is_next-2.false) c.in_ok-max.ensures.written c.in_ok-max.ensures.whole
    (λ le.
    let least : c.in_ok-min.min ≡ value c.in_ok-min.ensures.number = c.in_ok-min.ensures.value_is in
    let most : c.in_ok-max.max ≡ value c.in_ok-max.ensures.number = c.in_ok-max.ensures.value_is in
    absurd (omega arith))
    n t
    (subst (λ z. Behind n t c.in_ok-min.ensures.number z)
    (next_is 44 c.args.text.now c.in_ok-min.place (sym c.is_next-2.ensures ∙ c.if-not-is_next.false)).written
    (behind_at c.args.text.now c.args.at c.in_ok-min.place c.in_ok-min.min (next_is 123 c.args.text.now c.args.at c.requires) c.in_ok-min.ensures n t e f))

pub returns-then-not-is_next-2 : goal.returns-then-not-is_next-2
returns-then-not-is_next-2 c = λ n t e f.
    no_end c.in_ok-min.ensures.number c.in_ok-max.ensures.number (drop (c.in_ok-min.place + 1) c.args.text.now) (drop c.in_ok-max.end c.args.text.now)
    (sym c.is_next-3.ensures ∙ c.if-is_next-2.false) c.in_ok-max.ensures.written c.in_ok-max.ensures.whole
    (λ le. sym c.is_next-4.ensures ∙ c.if-not-is_next-2.true)
    n t
    (subst (λ z. Behind n t c.in_ok-min.ensures.number z)
    (next_is 44 c.args.text.now c.in_ok-min.place (sym c.is_next-2.ensures ∙ c.if-not-is_next.false)).written
    (behind_at c.args.text.now c.args.at c.in_ok-min.place c.in_ok-min.min (next_is 123 c.args.text.now c.args.at c.requires) c.in_ok-min.ensures n t e f))

pub returns : goal.returns
returns c =
    between_at c.args.text.now c.args.at c.in_ok-min.place c.in_ok-max.end c.in_ok-min.min c.in_ok-max.max
    (next_is 123 c.args.text.now c.args.at c.requires) c.in_ok-min.ensures
    (next_is 44 c.args.text.now c.in_ok-min.place (sym c.is_next-2.ensures ∙ c.if-not-is_next.false)) c.in_ok-max.ensures
    (next_is 125 c.args.text.now c.in_ok-max.end (sym c.is_next-4.ensures ∙ c.if-not-is_next-2.false)) c.if-max-min.false
