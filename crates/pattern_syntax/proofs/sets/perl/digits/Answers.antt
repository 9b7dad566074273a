use Rattle.std.proofs.Common.{refl, sym, ap, ◌∙◌}
use Rattle.std.proofs.lemmas.Bool.{cond-true, cond-false}
use Rattle.std.proofs.lemmas.Result.{IfOk-weaker}
use Rattle.std.specs.Char.{is_ascii_digit}
use Rattle.unicode.specs.Perl.{is_digit_char}
use Rattle.regex_class.specs.Ranges.{in_ranges}
use Rattle.pattern_syntax.specs.Readers.{IsSet}
use Rattle.pattern_syntax.specs.Sets.{Set, characters, digits_of}
use Rattle.pattern_syntax.proofs.sets.MemberLemmas.{made_of, characters_of}
use Rattle.pattern_syntax.proofs.sets.NameLemmas.{ascii_digits}
use Rattle.pattern_syntax.proofs.sets.perl.digits.Goals as goal

pub returns-in_ok-digit_ranges : goal.returns-in_ok-digit_ranges
returns-in_ok-digit_ranges c =
    IfOk-weaker _ (λ set. IsSet set (characters (in_ranges c.in_ok-digit_ranges.field-0.items))) (λ set. IsSet set (digits_of c.args.flags))
    (λ set is x.
    is x ∙ characters_of _ is_digit_char c.in_ok-digit_ranges.ensures.members x
    ∙ sym (ap (λ (s : Set). s x) (cond-true c.args.flags.unicode (characters is_digit_char) is_ascii_digit c.if-flags.true)))
    c.characters_in.ensures

pub returns-in_ok-from_ranges : goal.returns-in_ok-from_ranges
returns-in_ok-from_ranges c x =
    made_of c.in_ok-from_ranges.field-0 _ is_ascii_digit c.in_ok-from_ranges.ensures refl ascii_digits x
    ∙ sym (ap (λ (s : Set). s x) (cond-false c.args.flags.unicode (characters is_digit_char) is_ascii_digit c.if-flags.false))
