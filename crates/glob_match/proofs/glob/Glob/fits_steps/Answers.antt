use Rattle.std.proofs.Common.{◌≡◌, ◌≤◌, ◌+◌, chars, length, arith, rules, refl, ap, ◌∙◌, Some}
use Rattle.std.proofs.Math.Nat.{mul-le-mul_right}
use Rattle.std.specs.String.{string_bytes}
use Rattle.std.proofs.lemmas.Str.{chars_from_encodes}
use Rattle.std.proofs.lemmas.Option.{slice_get_read}
use Rattle.sd_base.proofs.StepsLemmas.{at_most_more}
use Rattle.glob_match.specs.Reading.{pieces_of_tokens}
use Rattle.glob_match.proofs.matching.FittingLemmas.{fits_valid}
use Rattle.glob_match.proofs.glob.Glob.fits_steps.Goals as goal

pub returns-clause-answer : goal.returns-clause-answer
returns-clause-answer g c =
    let path : c.in_ok-characters.characters.items ≡ chars c.args.path.now = search (rules, chars_from_encodes) in
    let read = c.self.invariant in
    let reached = c.in_ok-places.ensures.reached read.pieces (ap (λ ts. pieces_of_tokens (Some ts)) c.deref.ensures.value ∙ read.told) in
    let whole = rw (c.deref-2.ensures.value, path) at reached in
    let long : c.len.result ≡ length (chars c.args.path.now) = search (rules, c.len.ensures, ap length path) in
    rw (← c.self.view_is)
    (fits_valid (chars (string_bytes c.self.inside.text)) (chars c.args.path.now) read.pieces c.in_ok-places.places.items _ _ read.valid read.negated_is whole
    (slice_get_read _ (length c.in_ok-places.places.items) _ _ refl (omega (arith, whole.as_long)) (rw long at c.index.ensures)))

pub returns-clause-ticks : goal.returns-clause-ticks
returns-clause-ticks g c =
    let path : c.in_ok-characters.characters.items ≡ chars c.args.path.now = search (rules, chars_from_encodes) in
    let long : length c.deref-2.result.now ≡ length (chars c.args.path.now) = ap length (c.deref-2.ensures.value ∙ path) in
    let tokens : length c.deref.result.now ≤ length (chars c.args.self.now) = rw (← c.self.view_is, c.deref.ensures.value) c.self.invariant.at_most in
    rw (← long) (at_most_more (mul-le-mul_right (length c.deref-2.result.now + 1) tokens) c.places_after.ensures.ticks)

pub returns-in_err-places-clause-ticks : goal.returns-in_err-places-clause-ticks
returns-in_err-places-clause-ticks g c =
    let path : c.in_ok-characters.characters.items ≡ chars c.args.path.now = search (rules, chars_from_encodes) in
    let long : length c.deref-2.result.now ≡ length (chars c.args.path.now) = ap length (c.deref-2.ensures.value ∙ path) in
    let tokens : length c.deref.result.now ≤ length (chars c.args.self.now) = rw (← c.self.view_is, c.deref.ensures.value) c.self.invariant.at_most in
    rw (← long) (at_most_more (mul-le-mul_right (length c.deref-2.result.now + 1) tokens) c.places_after.ensures.ticks)
