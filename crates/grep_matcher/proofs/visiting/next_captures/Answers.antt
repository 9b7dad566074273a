use Rattle.std.proofs.Common.{rules, ◌≡◌, true, Some, length}
use Rattle.grep_matcher.proofs.captures.GroupLemmas.{first_found, accepted, refused}
use Rattle.grep_matcher.proofs.visiting.next_captures.Goals as goal

pub returns-then-not-is_refused-clause-found : goal.returns-then-not-is_refused-clause-found
returns-then-not-is_refused-clause-found g c =
    let m = c.args.matcher.now in
    let h = c.args.haystack.now in
    let found = c.as_match-found.result in
    let yes : c.in_ok-captures_at.field-0 ≡ true = search rules in
    accepted (g.M.Matcher.has_groups m) (g.M.Matcher.preferred m h) (length h) (g.M.Matcher.groups_at m h) (g.met.M.Matcher.lawful_groups m h) c.args.skip c.args.from _ found
    (first_found (g.M.Matcher.has_groups m) (g.M.Matcher.preferred m h) (length h) (g.M.Matcher.groups_at m h) (g.met.M.Matcher.lawful_groups m h) c.args.from _ found _ c.in_ok-captures_at.ensures.found yes c.as_match-found.ensures)
    (λ e. let refuses = c.is_refused.ensures.1 e in search rules)

pub returns-clause-found : goal.returns-clause-found
returns-clause-found g c =
    let m = c.args.matcher.now in
    let h = c.args.haystack.now in
    let found = c.as_match-found.result in
    let yes : c.in_ok-captures_at.field-0 ≡ true = search rules in
    let both : (found.start ≡ found.end) × (c.args.skip ≡ Some found.end) = c.is_refused.ensures.0 (search rules) in
    let ends : c.end-2.result ≡ found.end = c.end-2.ensures in
    let later = c.captures_at-2.ensures.found in
    refused (g.M.Matcher.has_groups m) (g.M.Matcher.preferred m h) (length h) (g.M.Matcher.groups_at m h) (g.met.M.Matcher.lawful_groups m h) c.args.skip c.args.from _ _ found c.captures_at-2.result
    (first_found (g.M.Matcher.has_groups m) (g.M.Matcher.preferred m h) (length h) (g.M.Matcher.groups_at m h) (g.met.M.Matcher.lawful_groups m h) c.args.from _ found _ c.in_ok-captures_at.ensures.found yes c.as_match-found.ensures)
    both (rw ends at later)
