use Rattle.std.proofs.Common.{◌+◌, arith, refl}
use Rattle.matcher_tests.specs.Pairs.{pair_end, span_of}
use Rattle.grep_matcher.specs.Span.{same_span}
use Rattle.matcher_tests.proofs.pairs.PairsMatcher.captures_at.Goals as goal

pub returns-clause-found : goal.returns-clause-found
returns-clause-found c =
    let found = c.in-Some.found in
    let first = rw c.in-Some.is at c.in_ok-found.ensures.found in
    let ends = (pair_end c.args.haystack.now c.args.self.now.first found.start found.end first.2).2 in
    let starts = c.new.ensures.starts in
    let last = c.new.ensures.ends in
    let begin = c.start.ensures in
    let finish = c.end.ensures in
    let whole = same_span found (span_of found.start 2) refl ends in
    let second = same_span c.new.result (span_of (found.start + 1) 1) (omega arith) (omega arith) in
    (found, first, cc)
