use Rattle.std.proofs.Common.{sym, ◌∙◌}
use Rattle.hir_core.proofs.searcher.SearcherLemmas.{span-by_text}
use Rattle.hir_core.proofs.searcher.Searcher.find_text.Goals as goal

pub returns-in-Some-clause-found : goal.returns-in-Some-clause-found
returns-in-Some-clause-found c =
    let searcher = c.self.inside in
    span-by_text searcher.hir c.args.self.now c.self.view_is c.in-Some.finder (sym c.self.invariant.text ∙ c.in-Some.is) c.args.text.now c.args.at c.find_span.result
    c.find_span.ensures
