use Rattle.std.proofs.Common.{true, ap, ◌∙◌}
use Rattle.std.specs.Prelude.{slice_set}
use Rattle.hir_core.proofs.visited.StampsLemmas.{stamped-visited}
use Rattle.hir_core.proofs.visited.Visited.add.Goals as goal

pub returns : goal.returns
returns c = stamped-visited _ c.self.inside.stamps.items c.args.spot ∙ ap (λ bs. slice_set bs c.args.spot true) c.self.view_is
