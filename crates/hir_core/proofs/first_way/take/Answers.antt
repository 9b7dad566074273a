use Rattle.std.proofs.Common.{◌≡◌, ◌+◌, refl, sym, ap, subst, arith}
use Rattle.hir_program.specs.Program.{spot_at, Way}
use Rattle.hir_core.specs.FirstWays.{HasFirst}
use Rattle.hir_core.specs.Trails.{way_of}
use Rattle.hir_core.proofs.first_way.FirstWayLemmas.{counted-some, first-take, taker-counted}
use Rattle.hir_core.proofs.first_way.take.Goals as goal

pub returns-clause-gone : goal.returns-clause-gone
returns-clause-gone c =
    let text = c.args.text.now in
    let spots = c.args.spots.now in
    let w = way_of c.args.trail.now in
    let size = c.in_ok-size.ensures in
    let at : c.move_on.new.self.at ≡ c.args.trail.now.at + c.in_ok-size.size = ap (λ (w : Way). w.run.at) c.move_on.ensures.way in
    record {
      within = omega (arith, at, size.within);
      first = λ thread h. subst (λ (v : Way). HasFirst text spots thread 0 (c.args.next, v)) (sym c.move_on.ensures.way)
          (first-take text spots c.requires.falls thread c.args.now.bar c.args.now.spot w h c.args.next c.in_ok-size.size c.requires.next.0 c.requires.next.1
          (size.leads w refl c.requires.next.0) 0);
      visits = λ before some. counted-some spots c.args.now.spot (taker-counted (spot_at spots c.args.now.spot) c.requires.next.0);
    }
