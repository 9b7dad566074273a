use Rattle.std.proofs.Common.{◌-◌, ◌<◌, ◌≤◌, All}
use Rattle.grep_regex.specs.Removed.{IsInFormOf, utf8_form}
use Rattle.grep_regex.proofs.non_matching.RemovedLemmas.{IsSameWithout}
use Rattle.grep_regex.proofs.non_matching.remove_forms.Given as goal

-- the last continuation bytes are lost, and the forms of the top bits are left
abbrev pub invariant-loop : goal.invariant-loop
invariant-loop l = record {
  order : l.low ≤ l.high;
  fits : All (λ b. b < 256) (utf8_form l.prefix (l.continuations - l.counter) l.high);
  within : l.counter ≤ l.continuations;
  same : IsSameWithout l.fn.set l.set (IsInFormOf l.prefix l.continuations (l.fn.first, l.fn.last)) (IsInFormOf l.prefix (l.continuations - l.counter) (l.low, l.high));
}
