use Rattle.std.proofs.Common.{◌≡◌, ◌+◌, ◌<◌, true, false, length, drop, sym, ap, ◌∙◌, subst}
use Rattle.pattern_syntax.specs.Atom.{coded_length}
use Rattle.pattern_syntax.specs.Readers.{EscapeAt}
use Rattle.pattern_syntax.specs.Escapes.{SpelledAt, are_code, spelled_number}
use Rattle.pattern_syntax.proofs.codes.CodeLemmas.{code_at, no_code, other_code, small_code}
use Rattle.pattern_syntax.proofs.codes.read_code.Goals as goal

pub returns-in_default : goal.returns-in_default
returns-in_default c =
    let text = c.args.text.now in
    let none = rw c.in_default.is at c.in_ok-digits.ensures.none in
    no_code c.args.flags c.args.letter c.coded_length-count.result (drop c.args.at text) (drop (c.args.at + 2) text) c.requires.1 c.coded_length-count.ensures
    (λ cs t counted code spelled. none cs t counted spelled)

pub returns-in_default-character_of : goal.returns-in_default-character_of
returns-in_default-character_of c =
    let text = c.args.text.now in
    let count = c.coded_length-count.result in
    let found = rw c.in-Some.is at c.in_ok-digits.ensures.found in
    let spelled : SpelledAt c.args.flags text (c.args.at + 2) c.coded_length-count.result c.in-Some.digits.items c.in-Some.next =
    rw (c.in-Some.digits-is, c.in-Some.next-is) found in
    let other : are_code c.in-Some.digits.items ≡ false = ap are_code (sym c.deref.ensures.value) ∙ c.in_default-character_of.ensures.none in
    no_code c.args.flags c.args.letter count (drop c.args.at text) (drop (c.args.at + 2) text) c.requires.1 c.coded_length-count.ensures
    (other_code c.args.flags text (c.args.at + 2) count c.in-Some.next c.in-Some.digits.items spelled other)

pub coded_member-requires : goal.coded_member-requires
coded_member-requires c = λ hex.
    let found = rw c.in-Some.is at c.in_ok-digits.ensures.found in
    let spelled : SpelledAt c.args.flags c.args.text.now (c.args.at + 2) c.coded_length-count.result c.in-Some.digits.items c.in-Some.next =
    rw (c.in-Some.digits-is, c.in-Some.next-is) found in
    let two : length c.in-Some.digits.items ≡ 2 = spelled.counted ∙ c.coded_length-count.ensures ∙ ap coded_length hex in
    let code : are_code c.in-Some.digits.items ≡ true = ap are_code (sym c.deref.ensures.value) ∙ c.in-Some-character_of.ensures.found.0 in
    let number : spelled_number 0 c.in-Some.digits.items ≡ c.in-Some-character_of.c = ap (spelled_number 0) (sym c.deref.ensures.value) ∙ c.in-Some-character_of.ensures.found.1 in
    subst (λ n. n < 256) number (small_code c.in-Some.digits.items two code)

pub returns : goal.returns
returns c =
    let text = c.args.text.now in
    let found = rw c.in-Some.is at c.in_ok-digits.ensures.found in
    let spelled : SpelledAt c.args.flags text (c.args.at + 2) c.coded_length-count.result c.in-Some.digits.items c.in-Some.next =
    rw (c.in-Some.digits-is, c.in-Some.next-is) found in
    let code : are_code c.in-Some.digits.items ≡ true = ap are_code (sym c.deref.ensures.value) ∙ c.in-Some-character_of.ensures.found.0 in
    let number : spelled_number 0 c.in-Some.digits.items ≡ c.in-Some-character_of.c = ap (spelled_number 0) (sym c.deref.ensures.value) ∙ c.in-Some-character_of.ensures.found.1 in
    subst (λ z. EscapeAt c.args.flags text c.args.at z c.in-Some.next) (sym c.coded_member.ensures)
    (code_at c.args.flags text c.args.at c.args.letter c.coded_length-count.result c.in-Some.next c.in-Some-character_of.c c.in-Some.digits.items c.requires c.coded_length-count.ensures
    spelled code number)
