use Rattle.std.proofs.Common.{refl, sym, ap, ◌∙◌}
use Rattle.std.proofs.lemmas.Bool.{cond-true, cond-false}
use Rattle.std.proofs.lemmas.Result.{IfOk-weaker}
use Rattle.unicode.specs.Perl.{is_space_char}
use Rattle.regex_class.specs.Ranges.{in_ranges}
use Rattle.pattern_syntax.specs.Readers.{IsSet}
use Rattle.pattern_syntax.specs.Sets.{Set, characters, spaces_of, is_ascii_space}
use Rattle.pattern_syntax.proofs.sets.MemberLemmas.{made_of, characters_of}
use Rattle.pattern_syntax.proofs.sets.NameLemmas.{ascii_spaces}
use Rattle.pattern_syntax.proofs.sets.perl.spaces.Goals as goal

pub returns-in_ok-space_ranges : goal.returns-in_ok-space_ranges
returns-in_ok-space_ranges c =
    IfOk-weaker _ (λ set. IsSet set (characters (in_ranges c.in_ok-space_ranges.field-0.items))) (λ set. IsSet set (spaces_of c.args.flags))
    (λ set is x.
    is x ∙ characters_of _ is_space_char c.in_ok-space_ranges.ensures.members x
    ∙ sym (ap (λ (s : Set). s x) (cond-true c.args.flags.unicode (characters is_space_char) is_ascii_space c.if-flags.true)))
    c.characters_in.ensures

pub returns-in_ok-from_ranges : goal.returns-in_ok-from_ranges
returns-in_ok-from_ranges c x =
    made_of c.in_ok-from_ranges.field-0 _ is_ascii_space c.in_ok-from_ranges.ensures refl ascii_spaces x
    ∙ sym (ap (λ (s : Set). s x) (cond-false c.args.flags.unicode (characters is_space_char) is_ascii_space c.if-flags.false))
