use Rattle.std.proofs.Common.{◌+◌, inl, inr, refl, sym, ap, subst}
use Rattle.hir_program.specs.Loops.{AreLoops}
use Rattle.hir_program.specs.Program.{Way}
use Rattle.hir_program.specs.declared.loops.Loops.{Loops}
use Rattle.hir_core.specs.FirstWays.{HasFirst}
use Rattle.hir_core.specs.Pass.{is_counted}
use Rattle.hir_core.specs.Trails.{placed_at, way_of}
use Rattle.hir_core.proofs.first_way.FirstWayLemmas.{counted-some, first-goes_round, first-split}
use Rattle.hir_core.proofs.first_way.split.Goals as goal

pub returns : goal.returns
returns c =
    let text = c.args.text.now in
    let spots = c.args.spots.now in
    let q = c.args.now.spot in
    let bar = c.args.now.bar in
    let w = way_of c.args.trail.now in
    let to = c.go_round.new.trail.at in
    let round = c.go_round.ensures.round spots (subst (λ (loops : Loops). AreLoops spots loops) (sym c.loops.ensures) c.requires.filters.loops) in
    record {
      within = c.go_round.ensures.within;
      first = λ thread h. subst (λ (v : Way). HasFirst text spots thread (q + 1) (c.first_of_two.result, v)) (sym c.go_round.ensures.way)
          (first-split text spots c.requires.falls thread bar q (placed_at to w)
          (first-goes_round text spots c.requires.falls thread bar q to w refl c.requires.new_here c.go_round.ensures.within c.go_round.ensures.forward round h)
          c.args.first c.args.second c.first_of_two.result c.requires.split c.requires.new_here
          (elim c.first_of_two.ensures [ inl first ↦ inl first | inr second ↦ inr (second.0, second.1 spots c.requires.filters) ]));
      visits = λ before some. counted-some spots q (ap is_counted c.requires.split);
    }
