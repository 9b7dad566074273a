use Rattle.std.proofs.Common.{◌≡◌, ◌≤◌, ◌++◌, ◌∷◌, [], ℕ, List, Option, Some, None, length, drop, arith, refl, sym, subst, ◌∙◌}
use Rattle.std.specs.Prelude.{IfSome}
use Rattle.grep_matcher.specs.Cover.{IsAfter, IsFirst, accepts}
use Rattle.grep_matcher.specs.Span.{Span}
use Rattle.grep_regex.specs.Matching.{end_at}
use Rattle.grep_regex.specs.MatchingLemmas.{lawful_ends}
use Rattle.hir_tree.specs.Tree.{tree_of}
use Rattle.sd_replace.specs.Replacer.{replacement_of}
use Rattle.sd_replace.specs.Searching.{AreOfMatch}
use Rattle.sd_replace.proofs.changing.ChangingLemmas.{HasFound, as_after, as_first, as_match, found_more, found_none, made_at_the_end, made_by_the_limit, onward, written_none}
use Rattle.sd_replace.proofs.replacer.Replacer.replace_all.Goals as goal

pub matches-init : goal.matches-init
matches-init c =
    let self = c.args.self.now in
    let bytes = c.args.content.now in
    let search = c.args.search.now in
    let x = c.args.first in
    let first = c.requires.stands.first in
    let preferred = end_at (tree_of self.matcher.searcher) bytes in
    let lawful = lawful_ends (tree_of self.matcher.searcher) self.matcher.whole bytes in
    let ends = lawful x.start x.end first.1 first.2.0 in
    let rises : x.start ≤ x.end = ends.0 in
    record {
      stands = record {
        done = [];
        found = subst (λ (last : Option ℕ). HasFound preferred bytes lawful (x ∷ []) search.from last) (sym c.requires.stands.last)
            (found_more preferred bytes lawful [] 0 search.from None x (found_none preferred bytes lawful) first c.requires.stands.after);
        written = written_none (replacement_of self) bytes c.args.made.now.new_bytes.items c.args.made.now.copied c.args.made.now.count c.requires.nothing.bytes c.requires.nothing.copied c.requires.nothing.count;
        known = c.new-quota.ensures.none;
      };
      limits = record { content = c.new-quota.ensures.content; counted = c.new-quota.ensures.counted; limit = c.new-quota.ensures.limit };
      order = omega (arith, c.new-quota.ensures.start);
      behind = omega (arith, c.requires.nothing.copied);
      few = omega (arith, c.requires.nothing.count);
      starts = omega (arith, rises, ends.1);
      within = ends.1;
      ahead = c.requires.stands.after.0;
      onward = onward x search.from rises c.requires.stands.after;
      pattern = c.requires.stands.pattern;
      groups = c.requires.stands.groups;
    }

pub returns-then-is_spent-clause-changed : goal.returns-then-is_spent-clause-changed
returns-then-is_spent-clause-changed c =
    let self = c.args.self.now in
    let bytes = c.args.content.now in
    let stands = c.matches.invariant.stands in
    let done : List Span = stands.done ++ c.matches.found ∷ [] in
    let made = c.replace_one.new.made in
    let written = c.in_ok-replace_one.ensures.written stands.done stands.known stands.written in
    let known = c.in_ok-replace_one.ensures.known stands.done stands.known in
    made_by_the_limit (replacement_of self) bytes (lawful_ends (tree_of self.matcher.searcher) self.matcher.whole bytes) done c.matches.search.from c.matches.search.last stands.found made.new_bytes.items made.copied made.count written
    (made.new_bytes.items ++ drop made.copied bytes) made.count
    (λ rest. as_after c.replace_one.new.quota (replacement_of self) bytes done rest c.in_ok-replace_one.ensures.limits (c.is_spent.ensures c.if-is_spent.true done rest known)) refl refl

pub returns-in-None-clause-changed : goal.returns-in-None-clause-changed
returns-in-None-clause-changed c =
    let self = c.args.self.now in
    let bytes = c.args.content.now in
    let search = c.matches.search in
    let stands = c.matches.invariant.stands in
    let done : List Span = stands.done ++ c.matches.found ∷ [] in
    let made = c.replace_one.new.made in
    let written = c.in_ok-replace_one.ensures.written stands.done stands.known stands.written in
    let none = subst (λ (o : Option Span). IsFirst (accepts search.last (end_at (tree_of search.matcher.now.searcher) bytes)) search.from (length bytes) o) c.in-None.is c.in_ok-next.ensures.found in
    let first = as_first search.matcher.now self.matcher bytes search.last search.from None c.matches.invariant.pattern none in
    made_at_the_end (replacement_of self) bytes (lawful_ends (tree_of self.matcher.searcher) self.matcher.whole bytes) done search.from search.last stands.found made.new_bytes.items made.copied made.count written
    (made.new_bytes.items ++ drop made.copied bytes) made.count first refl refl

pub matches-preserved : goal.matches-preserved
matches-preserved c =
    let self = c.args.self.now in
    let bytes = c.args.content.now in
    let before = c.matches.invariant in
    let search = c.matches.search in
    let later = c.next.new.self in
    let x = c.in-Some.next in
    let preferred = end_at (tree_of self.matcher.searcher) bytes in
    let lawful = lawful_ends (tree_of self.matcher.searcher) self.matcher.whole bytes in
    let done : List Span = before.stands.done ++ c.matches.found ∷ [] in
    let there = subst (λ (o : Option Span). IsFirst (accepts search.last (end_at (tree_of search.matcher.now.searcher) bytes)) search.from (length bytes) o) c.in-Some.is c.in_ok-next.ensures.found in
    let first = as_first search.matcher.now self.matcher bytes search.last search.from (Some x) before.pattern there in
    let after = subst (λ (o : Option Span). IfSome o (λ span. IsAfter span later.from)) c.in-Some.is c.in_ok-next.ensures.after in
    let last = subst (λ (o : Option Span). IfSome o (λ span. later.last ≡ Some span.end)) c.in-Some.is c.in_ok-next.ensures.last in
    let groups = subst (λ (o : Option Span). IfSome o (λ span. AreOfMatch (tree_of search.matcher.now.searcher) bytes span.start later.groups)) c.in-Some.is c.in_ok-next.ensures.groups in
    let ends = lawful x.start x.end first.1 first.2.0 in
    let rises : x.start ≤ x.end = ends.0 in
    let starts : search.from ≤ x.start = first.0 in
    record {
      stands = record {
        done = done;
        found = subst (λ (l : Option ℕ). HasFound preferred bytes lawful (done ++ x ∷ []) later.from l) (sym last) (found_more preferred bytes lawful done search.from later.from search.last x before.stands.found first after);
        written = c.in_ok-replace_one.ensures.written before.stands.done before.stands.known before.stands.written;
        known = c.in_ok-replace_one.ensures.known before.stands.done before.stands.known;
      };
      limits = c.in_ok-replace_one.ensures.limits;
      order = omega (arith, c.in_ok-replace_one.ensures.order, before.onward);
      behind = omega (arith, c.in_ok-replace_one.ensures.behind, before.ahead);
      few = omega (arith, c.in_ok-replace_one.ensures.few, before.onward);
      starts = omega (arith, rises, ends.1);
      within = ends.1;
      ahead = after.0;
      onward = onward x later.from rises after;
      pattern = c.in_ok-next.ensures.pattern ∙ before.pattern;
      groups = as_match search.matcher.now self.matcher bytes x.start later.groups before.pattern groups;
    }
