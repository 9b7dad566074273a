use Rattle.std.proofs.Common.{◌≡◌, true, false, sym, ◌∙◌}
use Rattle.grep_regex.specs.ReadSoFar.{asks_to_fold}
use Rattle.grep_regex.proofs.reading.PatternLemmas.{kept_again, numbers_fit, trees_first, trees_folded}
use Rattle.grep_regex.proofs.reading.read_patterns.Goals as goal

pub returns-then-asks_to_fold-clause-trees : goal.returns-then-asks_to_fold-clause-trees
returns-then-asks_to_fold-clause-trees c =
    let o = c.args.options.now in
    let patterns = c.args.patterns.now in
    let read = c.in_ok-read.ensures in
    let again = c.in_ok-folded.folded in
    let asks : asks_to_fold o c.in_ok-read.read ≡ true = sym c.asks_to_fold.ensures ∙ c.if-asks_to_fold.true in
    let kept : again.has_double_name ≡ false = kept_again o true patterns again c.in_ok-folded.ensures.read read.single in
    trees_folded o patterns c.in_ok-read.read read.read read.kept asks again c.in_ok-folded.ensures.read kept

pub returns-then-asks_to_fold-clause-numbers : goal.returns-then-asks_to_fold-clause-numbers
returns-then-asks_to_fold-clause-numbers c =
    let o = c.args.options.now in
    let patterns = c.args.patterns.now in
    let again = c.in_ok-folded.folded in
    let kept : again.has_double_name ≡ false = kept_again o true patterns again c.in_ok-folded.ensures.read c.in_ok-read.ensures.single in
    numbers_fit o true patterns again c.in_ok-folded.ensures.read kept c.requires.fit

pub returns-clause-trees : goal.returns-clause-trees
returns-clause-trees c =
    let o = c.args.options.now in
    let read = c.in_ok-read.ensures in
    let asks : asks_to_fold o c.in_ok-read.read ≡ false = sym c.asks_to_fold.ensures ∙ c.if-asks_to_fold.false in
    trees_first o c.args.patterns.now c.in_ok-read.read read.read read.kept asks
