use Rattle.std.proofs.Common.{◌+◌, ◌-◌, ◌≤◌, length, true, Ok}
use Rattle.grep_matcher.specs.Callable.{TakesCaptures}
use Rattle.grep_matcher.specs.Groups.{captured}
use Rattle.grep_matcher.specs.Replaced.{Extends, Replaces}
use Rattle.grep_matcher.specs.Visits.{AppendsWithGroups}
use Rattle.grep_matcher.proofs.captures.GroupLemmas.{captured_lawful}
use Rattle.grep_matcher.proofs.visiting.CoverCallLemmas.{Leads}
use Rattle.grep_matcher.proofs.matcher.Matcher.replace_with_captures_at_by.Given as goal

-- the calls so far, before those to come, are those along the cover
abbrev pub invariant-spans : goal.invariant-spans
invariant-spans g l = record {
  ready : TakesCaptures (λ f c. (d : _) → goal.F-pre g f c d) (λ c. g.Self.Captures.Captures.groups c.now) (length l.haystack) l.append;
  fit : g.Self.Matcher.fits l.self l.caps;
  behind : l.copied ≤ l.from;
  within : l.copied ≤ length l.haystack;
  kept : Extends l.fn.dst.items l.dst.items;
  leads : Leads (Replaces (AppendsWithGroups (goal.F-step g) (λ c. g.Self.Captures.Captures.groups c.now) (g.Self.Matcher.groups_at l.self l.haystack)) (λ d. d.now.items) l.haystack) (Ok true)
      (captured (g.Self.Matcher.has_groups l.self) (g.Self.Matcher.preferred l.self l.haystack)) (length l.haystack) l.fn.at
      (captured_lawful (g.Self.Matcher.has_groups l.self) (g.Self.Matcher.preferred l.self l.haystack) (length l.haystack) (g.met.Self.Matcher.lawful l.self l.haystack))
      (record { closure = l.fn.append; at = l.fn.at; bytes = l.fn.dst.items }) (record { closure = l.append; at = l.copied; bytes = l.dst.items }) l.from l.skip;
}

abbrev pub decreases-spans : goal.decreases-spans
decreases-spans g l = length l.haystack + 1 - l.from
