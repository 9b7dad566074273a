use Rattle.std.proofs.Common.{◌-◌, ◌≤◌, length}
use Rattle.grep_matcher.specs.Cover.{NoneBetween, prefers}
use Rattle.matcher_tests.specs.OneByte.{end_of_byte}
use Rattle.matcher_tests.proofs.one_byte.OneByteMatcher.find_at.Given as goal

abbrev pub invariant-loop-place : goal.invariant-loop-place
invariant-loop-place l = record {
  after : l.at ≤ l.place;
  within : l.place ≤ length l.haystack;
  none : NoneBetween (prefers (end_of_byte l.haystack l.self.byte)) l.at l.place;
}

abbrev pub decreases-loop-place : goal.decreases-loop-place
decreases-loop-place l = length l.haystack - l.place
