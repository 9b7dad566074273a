use Rattle.std.proofs.Common.{◌≤◌, IfSome, rules, arith}
use Rattle.hir_tree.specs.Spots.{spots_of}
use Rattle.hir_tree.specs.Tree.{tree_of}
use Rattle.hir_core.specs.Pass.{counted}
use Rattle.hir_program.specs.Scan.{IsFilterOf}
use Rattle.hir_tree.proofs.CoreSpotsLemmas.{core_within}
use Rattle.hir_core.proofs.searcher.ProgramVisitsLemmas.{counted-core}
use Rattle.hir_core.proofs.searcher.Searcher.new.Goals as goal

pub invariant_of-result : goal.invariant_of-result
invariant_of-result c = record {
  groups = c.group_count-groups.ensures;
  falls = c.in_ok-spots.ensures.falls;
  preferred = c.in_ok-spots.ensures.preferred;
  visits = visits;
  filter = filter;
  text = c.in_ok-text.ensures;
  line_start = c.is_line_start-is_line_start.ensures;
}
  where
    visits : counted c.in_ok-spots.spots.items ≤ spots_of c.in_ok-copy.copy
    visits = omega (arith, counted-core _ c.in_ok-spots.spots.items c.in_ok-spots.ensures.stands, core_within (tree_of c.in_ok-copy.copy))

    filter : IfSome c.in_ok-filter.filter (IsFilterOf c.in_ok-spots.spots.items)
    filter = search rules
