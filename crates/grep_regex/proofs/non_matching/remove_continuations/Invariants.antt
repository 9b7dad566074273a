use Rattle.std.proofs.Common.{◌≡◌, ℕ, ◌+◌, ◌-◌, ◌<◌, ◌≤◌, min}
use Rattle.grep_regex.specs.Removed.{HasLost, continuation_byte}
use Rattle.grep_regex.proofs.non_matching.remove_continuations.Given as goal

-- the continuation bytes of the numbers before this one are lost
abbrev pub invariant-loop-number : goal.invariant-loop-number
invariant-loop-number l = record {
  lost : HasLost l.fn.set l.set (λ b. (n : ℕ) × (l.first ≤ n) × (n < l.number) × (continuation_byte n ≡ b));
  within : l.number ≤ l.first + min (l.last - l.first) 63 + 1;
}
