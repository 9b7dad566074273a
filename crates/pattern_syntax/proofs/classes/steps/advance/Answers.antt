use Rattle.std.proofs.Common.{◌≡◌, ◌≤◌, length, drop, refl, ap, ◌∙◌, arith}
use Rattle.pattern_syntax.proofs.classes.KeepLemmas.{read_at, pass_keeps}
use Rattle.pattern_syntax.proofs.classes.ReadLemmas.{onward, member_starts_at}
use Rattle.pattern_syntax.proofs.classes.steps.advance.Goals as goal

pub returns-then-place-reading : goal.returns-then-place-reading
returns-then-place-reading c =
    pass_keeps c.args.flags c.args.text.now c.args.reading _ refl refl c.behind_blanks-place.ensures.seen c.if-place-reading.true c.behind_blanks-place.ensures.within

pub member-requires-clause-begins : goal.member-requires-clause-begins
member-requires-clause-begins c =
    let text = c.args.text.now in
    let at = c.args.reading.at in
    let place = c.behind_blanks-place.result in
    let le : at ≤ length text = omega (arith, c.requires) in
    let more : at ≤ place = onward c.args.flags text at place le c.behind_blanks-place.ensures.within c.behind_blanks-place.ensures.seen in
    let stays : at ≡ place = omega (arith, c.if-place-reading.false) in
    member_starts_at c.args.flags text at c.index-text-reading.result c.requires
    (read_at text at c.index-text-reading.result c.requires c.index-text-reading.is) c.if-c-eq91.false c.if-c-eq93.false
    (ap (λ i. drop i text) stays ∙ c.behind_blanks-place.ensures.seen) c.in-None.ensures
