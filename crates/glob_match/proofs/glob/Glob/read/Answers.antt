use Rattle.std.proofs.Common.{◌≡◌, chars, ◌∙◌, arith, rules, length-drop, Some, None}
use Rattle.std.proofs.lemmas.Str.{chars_from_encodes}
use Rattle.glob_match.specs.Reading.{negations}
use Rattle.glob_match.proofs.matching.FittingLemmas.{read_whole}
use Rattle.glob_match.proofs.glob.Glob.read.Goals as goal

pub returns-in_default : goal.returns-in_default
returns-in_default c =
    let text : c.in_ok-characters.characters.items ≡ chars c.args.text.now = search (rules, chars_from_encodes) in
    let text_is = c.deref.ensures.value ∙ text in
    let none = rw c.in_default.is at c.in_ok-tokens.ensures.read in
    read_whole (chars c.args.text.now) _ None (rw text_is at c.after_signs-negated.ensures.rest) none

pub invariant_of-result : goal.invariant_of-result
invariant_of-result c =
    let text : c.in_ok-characters.characters.items ≡ chars c.args.text.now = search (rules, chars_from_encodes) in
    let text_is = c.deref.ensures.value ∙ text in
    let read = c.in_ok-tokens.ensures in
    let told = rw c.in-Some.is at read.read in
    let at_most = rw (c.in-Some.is, c.after_signs-negated.ensures.rest, text_is) at read.at_most in
    let same = c.in_ok-from_str.ensures.ok in
    rw same (record {
      negated_is = rw text_is at c.after_signs-negated.ensures.negated;
      pieces = told.0;
      valid = read_whole (chars c.args.text.now) _ (Some told.0) (rw text_is at c.after_signs-negated.ensures.rest) told.1;
      told = told.2;
      at_most = omega (arith, at_most, length-drop (negations (chars c.args.text.now)) (chars c.args.text.now));
    })
