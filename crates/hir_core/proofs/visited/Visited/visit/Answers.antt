use Rattle.std.proofs.Common.{ℕ, ◌<◌, true, List, Bool, length, sym, ap, ◌∙◌, subst}
use Rattle.std.specs.Prelude.{◌==◌, slice_set}
use Rattle.std.proofs.lemmas.Bool.{ne_eqb}
use Rattle.std.proofs.lemmas.List.{length-map}
use Rattle.hir_core.specs.Pass.{was_visited}
use Rattle.hir_core.proofs.visited.StampsLemmas.{stamp-says, stamped-visited}
use Rattle.hir_core.proofs.visited.Visited.visit.Goals as goal

pub returns-clause-first : goal.returns-clause-first
returns-clause-first c is_first =
    let stamps = c.self.inside.stamps.items in
    let spot : ℕ = c.args.spot in
    let within : spot < length stamps = subst (λ (n : ℕ). spot < n) (sym (ap length c.self.view_is) ∙ length-map stamps _) c.requires in (
      sym (ap (λ (bs : List Bool). was_visited bs spot) c.self.view_is) ∙ stamp-says c.self.inside.stamp stamps spot c.index.result.now within
          ∙ ap (λ (s : ℕ). s == c.self.inside.stamp) (sym c.index.ensures) ∙ ne_eqb c.index.result.now c.self.inside.stamp c.if-index-self.false,
      stamped-visited _ stamps spot ∙ ap (λ (bs : List Bool). slice_set bs spot true) c.self.view_is,
    )
