use Rattle.std.proofs.Common.{◌≡◌, false, length, sym, ap, ◌∙◌, subst, arith}
use Rattle.std.specs.Prelude.{replicate}
use Rattle.std.proofs.lemmas.Grind.{common_steps}
use Rattle.hir_core.specs.Stamps.{visited_at, AllUpTo}
use Rattle.hir_core.proofs.visited.StampsLemmas.{next-unvisited, unset-unvisited, unset-up_to}
use Rattle.hir_core.proofs.visited.Visited.next_place.Goals as goal

pub returns-then-self-lt255 : goal.returns-then-self-lt255
returns-then-self-lt255 c =
    let many : length c.self.inside.stamps.items ≡ c.args.spots = omega arith in
    next-unvisited _ c.self.inside.stamps.items c.self.invariant ∙ ap (λ n. replicate n false) many

pub invariant_of-self-2 : goal.invariant_of-self-2
invariant_of-self-2 c =
    let unset : c.resize.new.self.items ≡ replicate c.args.spots 0 = grind (arith, common_steps) in
    subst (AllUpTo 1) (sym unset) (unset-up_to c.args.spots)

pub returns : goal.returns
returns c =
    let unset : c.resize.new.self.items ≡ replicate c.args.spots 0 = grind (arith, common_steps) in
    ap (visited_at 1) unset ∙ unset-unvisited c.args.spots
