use Rattle.std.proofs.Common.{◌≡◌, subst, arith}
use Rattle.hir_core.specs.Pass.{stops_give, Spent, AllLater}
use Rattle.hir_program.specs.Program.{some_run}
use Rattle.hir_core.proofs.closure.Closure.follow_or_keep.Goals as goal

pub follow-requires-clause-later : goal.follow-requires-clause-later
follow-requires-clause-later g c =
    let here : c.args.at ≡ c.args.self.now.trail.at = omega arith in
    subst (λ i. AllLater c.args.text.now i c.args.self.now.later) here c.requires.later

pub follow-requires-clause-spent : goal.follow-requires-clause-spent
follow-requires-clause-spent g c =
    let here : c.args.at ≡ c.args.self.now.trail.at = omega arith in
    subst (λ i. Spent c.args.text.now c.args.spots.now i c.args.self.now.visited (some_run (stops_give c.args.text.now c.args.spots.now c.args.self.now.later))) here c.requires.spent
