use Rattle.std.proofs.Common.{refl, sym, ap, ◌∙◌}
use Rattle.std.proofs.lemmas.Bool.{cond-true, cond-false}
use Rattle.std.proofs.lemmas.Result.{IfOk-weaker}
use Rattle.unicode.specs.Perl.{is_word_char}
use Rattle.regex_class.specs.Ranges.{in_ranges}
use Rattle.pattern_syntax.specs.Readers.{IsSet}
use Rattle.pattern_syntax.specs.Sets.{Set, characters, words_of, is_ascii_word}
use Rattle.pattern_syntax.proofs.sets.MemberLemmas.{made_of, characters_of}
use Rattle.pattern_syntax.proofs.sets.NameLemmas.{ascii_words}
use Rattle.pattern_syntax.proofs.sets.perl.words.Goals as goal

pub returns-in_ok-word_ranges : goal.returns-in_ok-word_ranges
returns-in_ok-word_ranges c =
    IfOk-weaker _ (λ set. IsSet set (characters (in_ranges c.in_ok-word_ranges.field-0.items))) (λ set. IsSet set (words_of c.args.flags))
    (λ set is x.
    is x ∙ characters_of _ is_word_char c.in_ok-word_ranges.ensures.members x
    ∙ sym (ap (λ (s : Set). s x) (cond-true c.args.flags.unicode (characters is_word_char) is_ascii_word c.if-flags.true)))
    c.characters_in.ensures

pub returns-in_ok-from_ranges : goal.returns-in_ok-from_ranges
returns-in_ok-from_ranges c x =
    made_of c.in_ok-from_ranges.field-0 _ is_ascii_word c.in_ok-from_ranges.ensures refl ascii_words x
    ∙ sym (ap (λ (s : Set). s x) (cond-false c.args.flags.unicode (characters is_word_char) is_ascii_word c.if-flags.false))
