use Rattle.std.specs.Prelude.{is_some}
use Rattle.std.proofs.Common.{◌≡◌, ◌+◌, ◌==◌, false, drop, sym, ap, ◌∙◌, subst}
use Rattle.pattern_syntax.specs.Sets.{category_named, category_set}
use Rattle.pattern_syntax.specs.Readers.{IsSet}
use Rattle.pattern_syntax.specs.Escapes.{SpelledAt}
use Rattle.pattern_syntax.proofs.spelling.SpellingLemmas.{is_on}
use Rattle.pattern_syntax.proofs.categories.CategoryLemmas.{category_at, no_category, other_category}
use Rattle.pattern_syntax.proofs.categories.read_category.Goals as goal

pub returns-in_default : goal.returns-in_default
returns-in_default c =
    let text = c.args.text.now in
    let none = rw c.in_default.is at c.in_ok-name.ensures.none in
    no_category c.args.flags c.args.letter (drop c.args.at text) (drop (c.args.at + 2) text) c.requires.1 (λ cs t counted named spelled. none cs t counted spelled)

pub returns-in_default-2 : goal.returns-in_default-2
returns-in_default-2 c =
    let text = c.args.text.now in
    let found = rw c.in-Some.is at c.in_ok-name.ensures.found in
    let spelled : SpelledAt c.args.flags text (c.args.at + 2) 1 c.in-Some.name.items c.in-Some.next = rw (c.in-Some.name-is, c.in-Some.next-is) found in
    let none = rw c.in_default-2.is at c.in_ok-set.ensures.none in
    let unnamed : is_some (category_named c.in-Some.name.items) ≡ false = ap (λ z. is_some (category_named z)) (sym c.deref.ensures.value) ∙ none in
    no_category c.args.flags c.args.letter (drop c.args.at text) (drop (c.args.at + 2) text) c.requires.1
    (other_category c.args.flags text (c.args.at + 2) c.in-Some.next c.in-Some.name.items spelled unnamed)

pub returns : goal.returns
returns c =
    let text = c.args.text.now in
    let found = rw c.in-Some.is at c.in_ok-name.ensures.found in
    let spelled : SpelledAt c.args.flags text (c.args.at + 2) 1 c.in-Some.name.items c.in-Some.next = rw (c.in-Some.name-is, c.in-Some.next-is) found in
    let set = rw c.in-Some-2.is at c.in_ok-set.ensures.found in
    let name = c.deref.ensures.value in
    category_at c.args.flags text c.args.at c.args.letter c.in-Some.next c.in-Some.name.items c.in-Some-2.set c.requires (is_on c.args.flags.unicode c.if-not-flags.false)
    (sym c.is_category_letter.ensures ∙ c.if-not-is_category_letter.false) spelled (ap (λ z. is_some (category_named z)) (sym name) ∙ set.1)
    (subst (λ z. IsSet c.in-Some-2.set (category_set c.args.flags (c.args.letter == 80) z)) name set.0)
