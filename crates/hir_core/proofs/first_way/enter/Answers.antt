use Rattle.std.proofs.Common.{◌≡◌, ◌+◌, ◌≤◌, [], inl, inr, refl, sym, ap, true≢false, rules, arith, Option, Some, None}
use Rattle.std.specs.Prelude.{IfSome}
use Rattle.hir_program.specs.Program.{spot_at}
use Rattle.hir_program.specs.declared.spot.Spot.TheVariants as spot
use Rattle.hir_core.specs.FirstWays.{GoesFirst}
use Rattle.hir_core.specs.Pass.{is_counted}
use Rattle.hir_core.specs.Trails.{way_of}
use Rattle.hir_core.specs.declared.first_way.Reached.{Reached}
use Rattle.hir_core.proofs.first_way.FirstWayLemmas.{counted-some, first-lead, first-split}
use Rattle.hir_core.proofs.first_way.enter.Goals as goal

if_some : (o : Option Reached) (P Q : Reached → Type 0) → ((n : Reached) → P n → Q n) → IfSome o P → IfSome o Q
if_some None P Q on p = tt
if_some (Some n) P Q on p = on n p

pub returns-clause-gone : goal.returns-clause-gone
returns-clause-gone c =
    let text = c.args.text.now in
    let spots = c.args.spots.now in
    let now = c.args.now in
    let w = way_of c.args.trail.now in
    let jump : spot_at spots c.args.first ≡ spot.Jump c.in-Some-Jump.next = search rules in
    let high : now.spot + 1 ≤ c.args.first = omega (arith, c.if-first-now.false) in
    if_some c.take_rounds.result _ (λ next. GoesFirst text spots now c.args.trail.now next c.take_rounds.new.trail)
    (λ next on. record {
      within = on.within;
      first = λ thread h. on.first thread
          (first-lead text spots c.requires.falls thread (now.spot + 1) c.args.first w
          (first-split text spots c.requires.falls thread now.bar now.spot w h c.args.first c.args.second c.args.first c.requires.split c.requires.new_here (inl refl))
          (spot.Jump c.in-Some-Jump.next) jump c.in-Some-Jump.next w [] refl (inr high) (c.args.first + 1)
          (λ close. absurd (true≢false (sym close))) (λ plain. refl));
      visits = λ before some. on.visits (λ round. counted-some spots now.spot (ap is_counted c.requires.split)) some;
    })
    c.take_rounds.ensures.gone
