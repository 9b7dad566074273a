use Rattle.std.proofs.Common.{◌+◌, ◌-◌, length, true}
use Rattle.grep_matcher.specs.Callable.{TakesCaptures}
use Rattle.grep_matcher.specs.Groups.{captured}
use Rattle.grep_matcher.specs.Visits.{WithGroups}
use Rattle.grep_matcher.proofs.captures.GroupLemmas.{captured_lawful}
use Rattle.grep_matcher.proofs.visiting.CoverCallLemmas.{Leads}
use Rattle.grep_matcher.proofs.matcher.Matcher.captures_visit_at.Given as goal

-- the calls so far, before those to come, are those along the cover
abbrev pub invariant-loop-caps : goal.invariant-loop-caps
invariant-loop-caps g l = record {
  ready : TakesCaptures (goal.F-pre g) (λ c. g.Self.Captures.Captures.groups c.now) (length l.haystack) l.matched;
  fit : g.Self.Matcher.fits l.self l.caps;
  leads : Leads (WithGroups (goal.F-step g) (λ c. g.Self.Captures.Captures.groups c.now) (g.Self.Matcher.groups_at l.self l.haystack)) true
      (captured (g.Self.Matcher.has_groups l.self) (g.Self.Matcher.preferred l.self l.haystack)) (length l.haystack) l.fn.at
      (captured_lawful (g.Self.Matcher.has_groups l.self) (g.Self.Matcher.preferred l.self l.haystack) (length l.haystack) (g.met.Self.Matcher.lawful l.self l.haystack)) l.fn.matched l.matched l.from l.skip;
}

abbrev pub decreases-loop-caps : goal.decreases-loop-caps
decreases-loop-caps g l = length l.haystack + 1 - l.from
