use Rattle.std.proofs.Common.{◌≡◌, ◌∷◌, ◌++◌, ℕ, List, Option, sym, ap, ◌∙◌, append-nil, arith}
use Rattle.hir_core.specs.Pass.{is_counted, leads}
use Rattle.hir_core.specs.Trails.{Stop, stops_of, stops_on, way_of}
use Rattle.hir_core.proofs.first_way.FirstWayLemmas.{counted-some, first-lead, lead-stays}
use Rattle.hir_core.proofs.first_way.pass.Goals.{then-is_counted, else-is_counted}
use Rattle.hir_core.proofs.first_way.pass.Goals as goal

pub returns : goal.returns
returns c =
    let text = c.args.text.now in
    let spots = c.args.spots.now in
    let s = c.args.here.now in
    let w = way_of c.args.trail.now in
    let v = way_of c.lead.new.trail in
    let onto : leads text s w ≡ (c.in-Some.spot, v) ∷ stops_of c.lead.new.trail =
    sym (ap (λ (o : Option ℕ). stops_on o c.lead.new.trail) (sym c.in-Some.is) ∙ c.in_ok-spot.ensures
    ∙ ap (λ (ps : List Stop). leads text s (way_of c.clear.new.self) ++ ps) c.clear.ensures.stops ∙ append-nil _ ∙ ap (leads text s) c.clear.ensures.way) in
    let stays = lead-stays text s w v c.in-Some.spot (stops_of c.lead.new.trail) onto in
    record {
      within = omega (arith, stays, c.requires.at);
      first = λ thread h. first-lead text spots c.requires.falls thread c.args.now.bar c.args.now.spot w h s (sym c.requires.here) c.in-Some.spot v
          (stops_of c.lead.new.trail) onto c.requires.new_here c.bar_behind.result c.bar_behind.ensures.end c.bar_behind.ensures.other;
      visits = λ before some. elim c.if-is_counted.branch [
        | then-is_counted b ↦ counted-some spots c.args.now.spot (ap is_counted (sym c.requires.here) ∙ (sym c.is_counted.ensures ∙ b.if-is_counted.true))
        | else-is_counted b ↦ before (let none = b.own-is in omega (arith, some, none, c.saturating_add.ensures))
      ];
    }
