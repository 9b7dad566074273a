use Rattle.std.proofs.Common.{refl}
use Rattle.pattern_syntax.proofs.classes.StepLemmas.{unpaired_stuck, reversed_stuck, pair_keeps}
use Rattle.pattern_syntax.proofs.classes.steps.range.Goals as goal

pub returns-in_default : goal.returns-in_default
returns-in_default c =
    let first = c.requires.is in
    unpaired_stuck c.args.flags c.args.text.now c.args.reading first.atom c.args.low c.args.behind (rw c.in_default.is at c.in_ok-high.ensures)
    c.requires.begins first.stands first.is c.requires.makes

pub returns-then-low-high : goal.returns-then-low-high
returns-then-low-high c =
    let first = c.requires.is in
    reversed_stuck c.args.flags c.args.text.now c.args.reading first.atom c.args.low c.in-Some.high c.args.behind c.in-Some.next
    (rw c.in-Some.is at c.in_ok-high.ensures) c.if-low-high.true c.requires.begins first.stands first.is c.requires.makes

pub returns : goal.returns
returns c =
    let first = c.requires.is in
    pair_keeps c.args.flags c.args.text.now c.args.reading _ first.atom c.args.low c.in-Some.high c.args.behind (rw c.in-Some.is at c.in_ok-high.ensures)
    c.requires.begins first.stands first.fits first.is c.requires.makes c.if-low-high.false first.goes_on.0 refl c.in_ok-add_range.ensures
