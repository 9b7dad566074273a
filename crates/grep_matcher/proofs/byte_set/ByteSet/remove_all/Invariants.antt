use Rattle.std.proofs.Common.{◌≡◌, ◌<◌, ◌≤◌, ◌+◌, ℕ, max, not, ◌&&◌, leb, ltb}
use Rattle.grep_matcher.specs.ByteSets.{is_in}
use Rattle.grep_matcher.proofs.byte_set.ByteSet.remove_all.Given as goal

-- the bytes before this one are done
abbrev pub invariant-loop-byte : goal.invariant-loop-byte
invariant-loop-byte l = record {
  done : (b : ℕ) → b < 256 → is_in l.self b ≡ (not (leb l.start b && ltb b l.byte) && is_in l.initial.self b);
  within : l.byte ≤ max l.start (l.end + 1);
}
