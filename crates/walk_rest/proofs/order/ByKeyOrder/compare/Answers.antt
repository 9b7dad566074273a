use Rattle.std.proofs.Common.{◌≡◌, refl, sym, ap, ◌∙◌}
use Rattle.std.specs.Ordering.{on}
use Rattle.walk_rest.specs.Plan.{Comparison}
use Rattle.walk_rest.proofs.order.ByKeyOrder.compare.Goals as goal

pub returns : goal.returns
returns g c = λ by is.
    let first = is.1 c.args.a.now c.key.result (record { shown = c.args.a; shows = refl; says = record { met = c.key.ensures } }) in
    let second = is.1 c.args.b.now c.key-2.result (record { shown = c.args.b; shows = refl; says = record { met = c.key-2.ensures } }) in
    let by_keys : c.cmp.result ≡ on is.0 g.K.Ord.cmp c.args.a.now c.args.b.now = c.cmp.ensures ∙ (λ i. g.K.Ord.cmp (first i) (second i)) in
    by_keys ∙ ap (λ (f : Comparison). f c.args.a.now c.args.b.now) (sym is.2)
