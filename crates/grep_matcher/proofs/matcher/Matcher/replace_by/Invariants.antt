use Rattle.std.proofs.Common.{◌+◌, ◌-◌, ◌≤◌, length, true, Ok}
use Rattle.grep_matcher.specs.Callable.{TakesSpans}
use Rattle.grep_matcher.specs.Replaced.{Extends, Replaces}
use Rattle.grep_matcher.proofs.visiting.CoverCallLemmas.{Leads}
use Rattle.grep_matcher.proofs.matcher.Matcher.replace_by.Given as goal

-- the calls so far, before those to come, are those along the cover
abbrev pub invariant-spans : goal.invariant-spans
invariant-spans g l = record {
  ready : TakesSpans (λ f span. (d : _) → goal.F-pre g f span d) (length l.haystack) l.append;
  behind : l.copied ≤ l.from;
  within : l.copied ≤ length l.haystack;
  kept : Extends l.fn.dst.items l.dst.items;
  leads : Leads (Replaces (goal.F-step g) (λ d. d.now.items) l.haystack) (Ok true) (g.Self.Matcher.preferred l.self l.haystack) (length l.haystack) 0 (g.met.Self.Matcher.lawful l.self l.haystack)
      (record { closure = l.fn.append; at = 0; bytes = l.fn.dst.items }) (record { closure = l.append; at = l.copied; bytes = l.dst.items }) l.from l.skip;
}

abbrev pub decreases-spans : goal.decreases-spans
decreases-spans g l = length l.haystack + 1 - l.from
