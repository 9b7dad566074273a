use Rattle.std.proofs.Common.{Option, Some, IfSome, sym, ap, ◌∙◌, subst, arith}
use Rattle.hir_tree.specs.RunsLaws.{forget}
use Rattle.hir_program.specs.Program.{Way, closed}
use Rattle.hir_program.specs.declared.spot.Spot.TheVariants as spot
use Rattle.hir_core.specs.FirstWays.{GoesFirst}
use Rattle.hir_core.specs.declared.first_way.Reached.{Reached}
use Rattle.hir_core.specs.Trails.{way_of}
use Rattle.hir_core.proofs.first_way.FirstWayLemmas.{first-anew, first-end, first-match}
use Rattle.hir_core.proofs.first_way.walk.Goals as goal

pub loop-turn-init : goal.loop-turn-init
loop-turn-init c = record {
  first = first-anew c.args.text.now c.args.spots.now c.requires.falls _ 0 c.args.spot (way_of c.args.trail.now) (λ r k. k);
  at = c.requires.at;
  visits = λ some. absurd (omega (arith, some));
}

pub returns-in-Match-clause-first : goal.returns-in-Match-clause-first
returns-in-Match-clause-first c =
    first-match c.args.text.now c.args.spots.now c.requires.falls _ c.loop-turn.now.bar c.loop-turn.now.spot (way_of c.loop-turn.trail) c.loop-turn.invariant.first
    (sym (c.in-Some.ensures.lookup.3.1 spot.Fail) ∙ c.in-Match.is)

pub returns-in-Some-last_end-clause-first : goal.returns-in-Some-last_end-clause-first
returns-in-Some-last_end-clause-first c =
    let end = c.in-Some-last_end.ensures in
    first-end c.args.text.now c.args.spots.now c.requires.falls _ c.loop-turn.now.bar c.loop-turn.now.spot (way_of c.loop-turn.trail) c.loop-turn.invariant.first
    c.in-Some-last_end.index end.0 (sym (c.in-Some.ensures.lookup.3.1 spot.Fail) ∙ end.1) end.2
    ∙ ap (λ (w : Way). Some (forget w.run)) (sym (c.in_ok-close.ensures.way ∙ ap (closed c.in-Some-last_end.index) c.clear.ensures.way))

pub loop-turn-preserved : goal.loop-turn-preserved
loop-turn-preserved c =
    let on = subst (λ (o : Option Reached). IfSome o (λ next. GoesFirst c.args.text.now c.args.spots.now c.loop-turn.now c.loop-turn.trail next c.turn.new.trail))
    c.in-Some-2.is c.in_ok-next.ensures in
    record {
      first = on.first _ c.loop-turn.invariant.first;
      at = on.within;
      visits = on.visits c.loop-turn.invariant.visits;
    }
