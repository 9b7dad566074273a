use Rattle.std.proofs.Common.{◌+◌, ◌-◌, length, true, Ok}
use Rattle.grep_matcher.specs.Callable.{TakesSpans}
use Rattle.grep_matcher.proofs.visiting.CoverCallLemmas.{Leads}
use Rattle.grep_matcher.proofs.matcher.Matcher.try_visit_at.Given as goal

-- the calls so far, before those to come, are those along the cover
abbrev pub invariant-loop-found : goal.invariant-loop-found
invariant-loop-found g l = record {
  ready : TakesSpans (goal.F-pre g) (length l.haystack) l.matched;
  leads : Leads (goal.F-step g) (Ok true) (g.Self.Matcher.preferred l.self l.haystack) (length l.haystack) l.fn.at (g.met.Self.Matcher.lawful l.self l.haystack) l.fn.matched l.matched l.from l.skip;
}

abbrev pub decreases-loop-found : goal.decreases-loop-found
decreases-loop-found g l = length l.haystack + 1 - l.from
