use Rattle.std.proofs.Common.{◌+◌, ◌-◌, ◌≤◌, length}
use Rattle.grep_matcher.specs.Cover.{NoneBetween}
use Rattle.grep_matcher.specs.PlainLemmas.{Text}
use Rattle.matcher_tests.proofs.plain.PlainMatcher.find_at.Given as goal

abbrev pub invariant-loop-place : goal.invariant-loop-place
invariant-loop-place l = record {
  after : l.at ≤ l.place;
  within : l.place ≤ length l.haystack + 1;
  none : NoneBetween (Text l.haystack l.self.text.now) l.at l.place;
}

abbrev pub decreases-loop-place : goal.decreases-loop-place
decreases-loop-place l = length l.haystack + 1 - l.place
