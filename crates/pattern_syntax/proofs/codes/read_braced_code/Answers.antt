use Rattle.std.proofs.Common.{◌≡◌, ◌+◌, true, false, drop, sym, ap, ◌∙◌}
use Rattle.pattern_syntax.specs.Escapes.{BracesAt, are_code, spelled_number}
use Rattle.pattern_syntax.proofs.codes.CodeLemmas.{braced_code_at, no_braced_code, other_braced_code, has_length}
use Rattle.pattern_syntax.proofs.codes.read_braced_code.Goals as goal

pub returns-in_default : goal.returns-in_default
returns-in_default c =
    let text = c.args.text.now in
    let none = rw c.in_default.is at c.in_ok-digits.ensures.none in
    no_braced_code c.args.flags c.args.letter (drop c.args.at text) (drop (c.args.at + 2) text) c.requires.1 (λ cs t letter inner code spelled. none cs t inner spelled)

pub returns-in_default-character_of : goal.returns-in_default-character_of
returns-in_default-character_of c =
    let text = c.args.text.now in
    let found = rw c.in-Some.is at c.in_ok-digits.ensures.found in
    let spelled : BracesAt c.args.flags text (c.args.at + 2) c.in-Some.digits.items c.in-Some.next = rw (c.in-Some.digits-is, c.in-Some.next-is) found in
    let other : are_code c.in-Some.digits.items ≡ false = ap are_code (sym c.deref.ensures.value) ∙ c.in_default-character_of.ensures.none in
    no_braced_code c.args.flags c.args.letter (drop c.args.at text) (drop (c.args.at + 2) text) c.requires.1
    (λ cs t letter inner code spells. other_braced_code c.args.flags text (c.args.at + 2) c.in-Some.next c.in-Some.digits.items spelled other cs t inner code spells)

pub returns : goal.returns
returns c =
    let text = c.args.text.now in
    let found = rw c.in-Some.is at c.in_ok-digits.ensures.found in
    let spelled : BracesAt c.args.flags text (c.args.at + 2) c.in-Some.digits.items c.in-Some.next = rw (c.in-Some.digits-is, c.in-Some.next-is) found in
    let code : are_code c.in-Some.digits.items ≡ true = ap are_code (sym c.deref.ensures.value) ∙ c.in-Some-character_of.ensures.found.0 in
    let number : spelled_number 0 c.in-Some.digits.items ≡ c.in-Some-character_of.c = ap (spelled_number 0) (sym c.deref.ensures.value) ∙ c.in-Some-character_of.ensures.found.1 in
    braced_code_at c.args.flags text c.args.at c.args.letter c.in-Some.next c.in-Some-character_of.c c.in-Some.digits.items c.requires
    (has_length c.args.letter c.coded_length.result c.coded_length.ensures c.if-coded_length-eq0.false) spelled code number
