use Rattle.std.proofs.Common.{◌+◌, List, Option, ap, ap₂, ◌∙◌}
use Rattle.std.specs.Option.{option_or}
use Rattle.hir_tree.specs.Runs.{Run}
use Rattle.hir_core.specs.Trails.{Stop}
use Rattle.hir_core.specs.Pass.{stops_give, match_of, answer, best_in}
use Rattle.hir_core.proofs.pass.RoundLemmas.{answer-round}
use Rattle.hir_core.proofs.pass.Pass.round.Goals as goal

pub returns-clause-answer : goal.returns-clause-answer
returns-clause-answer g c =
    let found = match_of c.in_ok-found.found c.follow_place.new.self.closure.trail in
    ap₂ (λ (ps : List Stop) (b : Option Run). answer c.args.text.now c.args.spots.now c.args.groups (c.args.at + 1) (stops_give c.args.text.now c.args.spots.now ps) b)
    c.swap.ensures.x_after (c.update.ensures ∙ ap (λ b. option_or found (best_in b)) c.in_ok-found.ensures.best)
    ∙ answer-round c.args.text.now c.args.spots.now c.args.at c.args.groups c.requires.at (stops_give c.args.text.now c.args.spots.now c.args.self.now.threads)
    (stops_give c.args.text.now c.args.spots.now c.follow_place.new.self.closure.later) (best_in c.args.self.now.best) found c.in_ok-found.ensures.finds
