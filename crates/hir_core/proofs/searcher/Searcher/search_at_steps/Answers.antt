use Rattle.std.proofs.Common.{◌≡◌, ◌-◌, length, arith}
use Rattle.hir_tree.specs.Spots.{groups_of}
use Rattle.hir_core.proofs.searcher.SearcherLemmas.{found-by_line_start, found-by_text}
use Rattle.hir_core.proofs.searcher.Searcher.search_at_steps.Goals as goal

pub returns-in-Some-clause-searched : goal.returns-in-Some-clause-searched
returns-in-Some-clause-searched g c =
    let searcher = c.self.inside in
    let groups : length c.args.slots.now - 1 ≡ groups_of c.args.self.now = omega (arith, c.requires.slots) in
    let found = found-by_text searcher.hir searcher.groups searcher.spots.items searcher.filter searcher.text searcher.is_line_start c.self.invariant c.args.self.now c.self.view_is
    c.args.text.now c.args.at c.search.result c.search.new.slots c.in-Some.finder c.in-Some.is (length c.args.slots.now - 1) groups c.search.ensures.found in
    record { found = found; kept = c.search.ensures.kept; refused = tt }

pub returns-then-self-clause-searched : goal.returns-then-self-clause-searched
returns-then-self-clause-searched g c =
    let searcher = c.self.inside in
    let groups : length c.args.slots.now - 1 ≡ groups_of c.args.self.now = omega (arith, c.requires.slots) in
    let found = found-by_line_start searcher.hir searcher.groups searcher.spots.items searcher.filter searcher.text searcher.is_line_start c.self.invariant c.args.self.now c.self.view_is
    c.args.text.now c.args.at c.search-then-self.result c.search-then-self.new.slots c.if-self.true (length c.args.slots.now - 1) groups c.search-then-self.ensures.found in
    record { found = found; kept = c.search-then-self.ensures.kept; refused = tt }
