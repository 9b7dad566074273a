use Rattle.std.proofs.Common.{◌+◌, sym, subst}
use Rattle.pattern_syntax.specs.Readers.{EscapeAt}
use Rattle.pattern_syntax.specs.Escapes.{IsKindRead, IsOctal}
use Rattle.pattern_syntax.proofs.spelling.SpellingLemmas.{is_on}
use Rattle.pattern_syntax.proofs.octal.OctalLemmas.{octal_one, octal_two, octal_three, no_octal}
use Rattle.pattern_syntax.proofs.octal.read_octal.Goals as goal

pub returns-in_err-first : goal.returns-in_err-first
returns-in_err-first c =
    let text = c.args.text.now in
    subst (λ z. IsKindRead IsOctal c.args.flags text c.args.at z) (sym c.from_residual.ensures)
    (no_octal c.args.flags text c.args.at c.requires.0 c.requires.1 (λ on. c.in_err-first.ensures.none))

pub returns-in_default : goal.returns-in_default
returns-in_default c =
    let text = c.args.text.now in
    subst (λ z. EscapeAt c.args.flags text c.args.at z (c.args.at + 2)) (sym c.octal_character.ensures)
    (octal_one c.args.flags text c.args.at c.requires.0 c.in_ok-first.first c.requires.1 (is_on c.args.flags.octal c.if-not-flags.false) c.in_ok-first.ensures.found c.in_default.ensures.none)

pub returns-in_default-octal_digit : goal.returns-in_default-octal_digit
returns-in_default-octal_digit c =
    let text = c.args.text.now in
    subst (λ z. EscapeAt c.args.flags text c.args.at z (c.args.at + 3)) (sym c.octal_character-in_default-octal_digit.ensures)
    (octal_two c.args.flags text c.args.at c.requires.0 c.in_ok-first.first c.in-Some.second c.requires.1 (is_on c.args.flags.octal c.if-not-flags.false) c.in_ok-first.ensures.found
    c.in-Some.ensures.found c.in_default-octal_digit.ensures.none)

pub returns : goal.returns
returns c =
    let text = c.args.text.now in
    subst (λ z. EscapeAt c.args.flags text c.args.at z (c.args.at + 4)) (sym c.octal_character-2.ensures)
    (octal_three c.args.flags text c.args.at c.requires.0 c.in_ok-first.first c.in-Some.second c.in-Some-octal_digit.third c.requires.1 (is_on c.args.flags.octal c.if-not-flags.false)
    c.in_ok-first.ensures.found c.in-Some.ensures.found c.in-Some-octal_digit.ensures.found)
