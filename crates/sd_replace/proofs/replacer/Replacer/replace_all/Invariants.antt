use Rattle.std.proofs.Common.{◌≡◌, ◌+◌, ◌-◌, ◌<◌, ◌≤◌, length}
use Rattle.hir_tree.specs.Tree.{tree_of}
use Rattle.grep_regex.specs.MatchingLemmas.{lawful_ends}
use Rattle.sd_replace.specs.Quota.{Limits}
use Rattle.sd_replace.specs.Replacer.{replacement_of}
use Rattle.sd_replace.specs.Searching.{AreOfMatch}
use Rattle.sd_replace.proofs.changing.ChangingLemmas.{Stands}
use Rattle.sd_replace.proofs.replacer.Replacer.replace_all.Given as goal

-- the loop stands at the span that was found last
abbrev pub invariant-matches : goal.invariant-matches
invariant-matches l = record {
  stands : Stands (replacement_of l.self) l.content (lawful_ends (tree_of l.self.matcher.searcher) l.self.matcher.whole l.content) l.search.from l.search.last l.quota l.made l.found;
  limits : Limits l.quota (replacement_of l.self) l.content;
  order : l.quota.place ≤ l.found.start;
  behind : l.made.copied ≤ l.found.start;
  few : l.made.count ≤ l.found.start;
  starts : l.found.start ≤ length l.content;
  within : l.found.end ≤ length l.content;
  ahead : l.found.end ≤ l.search.from;
  onward : l.found.start < l.search.from;
  pattern : l.search.matcher.now ≡ l.self.matcher;
  groups : AreOfMatch (tree_of l.self.matcher.searcher) l.content l.found.start l.search.groups;
}

abbrev pub decreases-matches : goal.decreases-matches
decreases-matches l = length l.content + 2 - l.search.from
