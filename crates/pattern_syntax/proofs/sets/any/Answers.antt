use Rattle.std.proofs.Common.{nat_lt, refl, sym, ◌∙◌}
use Rattle.std.proofs.lemmas.Bool.{cond-true, cond-false}
use Rattle.pattern_syntax.specs.Sets.{is_scalar}
use Rattle.pattern_syntax.proofs.sets.MemberLemmas.{made_of, scalars, bytes}
use Rattle.pattern_syntax.proofs.sets.any.Goals as goal

pub returns-in_ok-from_ranges : goal.returns-in_ok-from_ranges
returns-in_ok-from_ranges c x =
    made_of c.in_ok-from_ranges.field-0 _ is_scalar c.in_ok-from_ranges.ensures refl scalars x ∙ sym (cond-true c.args.flags.unicode (is_scalar x) (nat_lt x 256) c.if-flags.true)

pub returns-in_ok-from_ranges-2 : goal.returns-in_ok-from_ranges-2
returns-in_ok-from_ranges-2 c x =
    made_of c.in_ok-from_ranges-2.field-0 _ (λ b. nat_lt b 256) c.in_ok-from_ranges-2.ensures refl bytes x ∙ sym (cond-false c.args.flags.unicode (is_scalar x) (nat_lt x 256) c.if-flags.false)
