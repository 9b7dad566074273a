use Rattle.std.proofs.Common.{sym, ◌∙◌, subst, true≢false}
use Rattle.grep_regex.specs.Building.{IsReadingRefused}
use Rattle.grep_regex.proofs.reading.PatternLemmas.{double_of, single_of}
use Rattle.grep_regex.proofs.reading.read_all.Goals as goal

pub returns-then-branch-clause-refused : goal.returns-then-branch-clause-refused
returns-then-branch-clause-refused c =
    let o = c.args.options.now in
    let patterns = c.args.patterns.now in
    let are = c.in_ok-read.ensures.read in
    let twice = (c.in_ok-repeats_name.ensures.repeats o c.args.folded patterns are).0 c.if-branch.true in
    subst (IsReadingRefused o patterns) (sym c.unread.ensures) (double_of o c.args.folded patterns c.in_ok-read.read are twice)

pub returns-clause-single : goal.returns-clause-single
returns-clause-single c =
    let o = c.args.options.now in
    let patterns = c.args.patterns.now in
    let are = c.in_ok-read.ensures.read in
    single_of c.a_text_has_at_most_one_reading.ensures o c.args.folded patterns c.in_ok-read.read are
    (λ twice. true≢false (sym ((c.in_ok-repeats_name.ensures.repeats o c.args.folded patterns are).1 twice) ∙ c.if-branch.false))
