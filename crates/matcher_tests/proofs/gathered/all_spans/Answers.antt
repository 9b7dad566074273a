use Rattle.std.proofs.Common.{rules, ◌≡◌, refl}
use Rattle.grep_matcher.proofs.GatheredLemmas.{visits_keep, all_tried, same_cover}
use Rattle.matcher_tests.specs.contracts.gathered.fn.all_spans.keep as closure
use Rattle.matcher_tests.proofs.gathered.all_spans.Goals as goal

pub returns-in-Ok : goal.returns-in-Ok
returns-in-Ok g c =
    let visited = c.in_ok-done.ensures.visited in
    let whole = all_tried visited.0 _ _ visited.1 c.in-Ok.is visited.2 (λ q x v called. search rules) in
    let kept = visits_keep whole (λ f xs q. ((closure.captures q).spans.items ≡ xs) × (q.0.ghost_name ≡ f.0.ghost_name)) (search rules, refl) (λ xs q x v j called. search rules) in
    let items = kept.2.0 in
    let name = kept.2.1 in
    let same : c.spans-2-1.given.0.items ≡ kept.0 = search rules in
    same_cover _ _ _ _ _ kept.1 same
