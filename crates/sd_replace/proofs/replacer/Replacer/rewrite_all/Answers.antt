use Rattle.std.proofs.Common.{◌≡◌, ◌≤◌, ◌++◌, ◌∷◌, [], ℕ, List, Option, Some, None, length, arith, sym, subst, ◌∙◌}
use Rattle.std.specs.Prelude.{IfSome}
use Rattle.grep_matcher.specs.Cover.{IsAfter}
use Rattle.grep_matcher.specs.Span.{Span}
use Rattle.grep_regex.specs.Matching.{end_at}
use Rattle.grep_regex.specs.MatchingLemmas.{lawful_ends}
use Rattle.hir_tree.specs.Tree.{tree_of}
use Rattle.sd_replace.specs.InPlace.{made_of}
use Rattle.sd_replace.specs.Replacer.{replacement_of}
use Rattle.sd_replace.specs.Searching.{AreOfMatch}
use Rattle.sd_replace.proofs.changing.ChangingLemmas.{HasFound, found_more, found_none, onward, written_none}
use Rattle.sd_replace.proofs.in_place.RewriteLemmas.{all_rewritten, found_there, groups_there, written_one}
use Rattle.sd_replace.proofs.replacer.Replacer.rewrite_all.Goals as goal

pub matches-init : goal.matches-init
matches-init c =
    let self = c.args.self.now in
    let bytes = c.args.room.now.bytes.items in
    let search = c.args.search.now in
    let x = c.args.first in
    let first = c.requires.stands.first in
    let preferred = end_at (tree_of self.matcher.searcher) bytes in
    let lawful = lawful_ends (tree_of self.matcher.searcher) self.matcher.whole bytes in
    let ends = lawful x.start x.end first.1 first.2.0 in
    let rises : x.start ≤ x.end = ends.0 in
    let new = c.requires.untouched in
    record {
      holds = record {
        done = [];
        found = subst (λ (last : Option ℕ). HasFound preferred bytes lawful (x ∷ []) search.from last) (sym c.requires.stands.last)
            (found_more preferred bytes lawful [] 0 search.from None x (found_none preferred bytes lawful) first c.requires.stands.after);
        written = written_none (replacement_of self) bytes (made_of c.args.room.now) c.args.room.now.read c.args.room.now.count new.made new.read new.count;
        of = new.of;
      };
      order = omega (arith, new.written);
      behind = omega (arith, new.read);
      few = omega (arith, new.count);
      rises = rises;
      within = ends.1;
      ahead = c.requires.stands.after.0;
      onward = onward x search.from rises c.requires.stands.after;
      pattern = c.requires.stands.pattern;
      groups = c.requires.stands.groups;
    }

pub returns-in-None : goal.returns-in-None
returns-in-None c =
    let self = c.args.self.now in
    let bytes = c.args.room.now.bytes.items in
    let before = c.matches.invariant in
    let search = c.matches.search in
    let room = c.put_one.new.room in
    let put = c.in_ok-put_one.ensures in
    let of = put.room bytes before.holds.of in
    let none = found_there c.a_pattern_without_looks_matches_by_what_follows.ensures search.matcher.now self.matcher bytes c.deref.result.now room search.from search.last c.in_ok-next.field-0 None
    c.requires.onward before.pattern c.deref.ensures.value c.in-None.is of (omega (arith, put.order, before.ahead)) c.in_ok-next.ensures.found in
    let written = written_one c.groups_lie_ahead.ensures (replacement_of self) self.template.pieces.items bytes before.holds.done c.matches.found c.matches.room room search.groups c.requires.limit self.read
    before.groups before.holds.of before.order before.behind (omega (arith, before.rises, before.within)) put.made put.read put.count before.holds.written in
    let ends : room.read ≤ length bytes = omega (arith, put.read, before.within) in
    record {
      of = of;
      order = omega (arith, put.order, put.read);
      within = omega (arith, ends, of.size);
      changes = all_rewritten (replacement_of self) bytes (lawful_ends (tree_of self.matcher.searcher) self.matcher.whole bytes) (before.holds.done ++ c.matches.found ∷ []) search.from search.last before.holds.found
          room written of (omega (arith, put.order, put.read)) none;
      few = omega (arith, put.count, before.few, before.rises, before.within);
    }

pub matches-preserved : goal.matches-preserved
matches-preserved c =
    let self = c.args.self.now in
    let bytes = c.args.room.now.bytes.items in
    let before = c.matches.invariant in
    let search = c.matches.search in
    let later = c.next.new.self in
    let x = c.in-Some.next in
    let room = c.put_one.new.room in
    let put = c.in_ok-put_one.ensures in
    let preferred = end_at (tree_of self.matcher.searcher) bytes in
    let lawful = lawful_ends (tree_of self.matcher.searcher) self.matcher.whole bytes in
    let done : List Span = before.holds.done ++ c.matches.found ∷ [] in
    let of = put.room bytes before.holds.of in
    let low : room.written ≤ search.from = omega (arith, put.order, before.ahead) in
    let law = c.a_pattern_without_looks_matches_by_what_follows.ensures in
    let first = found_there law search.matcher.now self.matcher bytes c.deref.result.now room search.from search.last c.in_ok-next.field-0 (Some x)
    c.requires.onward before.pattern c.deref.ensures.value c.in-Some.is of low c.in_ok-next.ensures.found in
    let after = subst (λ (o : Option Span). IfSome o (λ span. IsAfter span later.from)) c.in-Some.is c.in_ok-next.ensures.after in
    let last = subst (λ (o : Option Span). IfSome o (λ span. later.last ≡ Some span.end)) c.in-Some.is c.in_ok-next.ensures.last in
    let groups = subst (λ (o : Option Span). IfSome o (λ span. AreOfMatch (tree_of search.matcher.now.searcher) c.deref.result.now span.start later.groups)) c.in-Some.is c.in_ok-next.ensures.groups in
    let ends = lawful x.start x.end first.1 first.2.0 in
    let rises : x.start ≤ x.end = ends.0 in
    let starts : search.from ≤ x.start = first.0 in
    record {
      holds = record {
        done = done;
        found = subst (λ (l : Option ℕ). HasFound preferred bytes lawful (done ++ x ∷ []) later.from l) (sym last) (found_more preferred bytes lawful done search.from later.from search.last x before.holds.found first after);
        written = written_one c.groups_lie_ahead.ensures (replacement_of self) self.template.pieces.items bytes before.holds.done c.matches.found c.matches.room room search.groups c.requires.limit self.read
            before.groups before.holds.of before.order before.behind (omega (arith, before.rises, before.within)) put.made put.read put.count before.holds.written;
        of = of;
      };
      order = omega (arith, put.order, put.read);
      behind = omega (arith, put.read, before.ahead, starts);
      few = omega (arith, put.count, before.few, before.onward, starts);
      rises = rises;
      within = ends.1;
      ahead = after.0;
      onward = onward x later.from rises after;
      pattern = c.in_ok-next.ensures.pattern ∙ before.pattern;
      groups = groups_there law search.matcher.now self.matcher bytes c.deref.result.now room x.start later.groups c.requires.onward before.pattern c.deref.ensures.value of
          (omega (arith, low, starts)) groups;
    }
