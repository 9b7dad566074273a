use Rattle.std.proofs.Common.{sym, subst}
use Rattle.hir_tree.specs.Tree.{Tree, tree_of}
use Rattle.grep_regex.specs.Building.{HasTheClearRuns, IsBare, MatchesAreClear}
use Rattle.grep_regex.specs.Matching.{EndsNoMatch}
use Rattle.grep_regex.proofs.building.BuildingLemmas.{clear_built, ends_built, runs_built}
use Rattle.grep_regex.proofs.building.matcher_of.Goals as goal

pub of_tree-requires : goal.of_tree-requires
of_tree-requires c = record {
  ends =
      subst (EndsNoMatch (tree_of c.in_ok-hir.hir)) (sym c.told_terminator-told.ensures)
      (ends_built c.args.options.now c.args.patterns.now (tree_of c.in_ok-hir.hir) c.in_ok-hir.ensures.built);
}

pub returns-clause-clear : goal.returns-clause-clear
returns-clause-clear c =
    let o = c.args.options.now in
    subst (MatchesAreClear o) (sym c.in_ok-of_tree.ensures.tree)
    (clear_built o c.args.patterns.now (tree_of c.in_ok-hir.hir) c.in_ok-hir.ensures.built)

pub returns-clause-runs : goal.returns-clause-runs
returns-clause-runs c =
    let o = c.args.options.now in
    let texts = c.args.patterns.now in
    subst (λ (tree : Tree). IsBare o → HasTheClearRuns o texts tree) (sym c.in_ok-of_tree.ensures.tree)
    (runs_built o texts (tree_of c.in_ok-hir.hir) c.in_ok-hir.ensures.built)
