use Rattle.std.proofs.Common.{◌≡◌, ◌+◌, ◌-◌, ◌<◌, ◌≤◌, length}
use Rattle.hir_tree.specs.Tree.{tree_of}
use Rattle.grep_regex.specs.MatchingLemmas.{lawful_ends}
use Rattle.sd_replace.specs.Replacer.{replacement_of}
use Rattle.sd_replace.specs.Searching.{AreOfMatch}
use Rattle.sd_replace.proofs.in_place.RewriteLemmas.{Holds}
use Rattle.sd_replace.proofs.replacer.Replacer.rewrite_all.Given as goal

-- the loop stands at the span that was found last
abbrev pub invariant-matches : goal.invariant-matches
invariant-matches l = record {
  holds : Holds (replacement_of l.self) l.fn.room.bytes.items (lawful_ends (tree_of l.self.matcher.searcher) l.self.matcher.whole l.fn.room.bytes.items) l.search.from l.search.last l.room l.found;
  order : l.room.written ≤ l.room.read;
  behind : l.room.read ≤ l.found.start;
  few : l.room.count ≤ l.found.start;
  rises : l.found.start ≤ l.found.end;
  within : l.found.end ≤ length l.fn.room.bytes.items;
  ahead : l.found.end ≤ l.search.from;
  onward : l.found.start < l.search.from;
  pattern : l.search.matcher.now ≡ l.self.matcher;
  groups : AreOfMatch (tree_of l.self.matcher.searcher) l.fn.room.bytes.items l.found.start l.search.groups;
}

abbrev pub decreases-matches : goal.decreases-matches
decreases-matches l = length l.fn.room.bytes.items + 2 - l.search.from
