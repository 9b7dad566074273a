use Rattle.std.proofs.Common.{rules, ◌≡◌, ◌+◌, ◌-◌, ◌^◌, length, min, [], ◌∷◌, refl, arith, length-append}
use Rattle.grep_matcher.proofs.GatheredLemmas.{visits_keep, all_visited}
use Rattle.matcher_tests.specs.contracts.gathered.fn.count.visit_at as closure
use Rattle.matcher_tests.proofs.gathered.count.Goals as goal

pub returns : goal.returns
returns g c =
    let visited = c.in_ok-visit_at.ensures.visited in
    let whole = all_visited visited.0 visited.1 visited.2 (λ q x v called. search rules) in
    let kept = visits_keep whole (λ f xs q. ((closure.captures q).n ≡ min (length xs) (2 ^ 64 - 1)) × (q.0.ghost_name ≡ f.0.ghost_name)) (refl, refl) (λ xs q x v j called.
    let one : v.0.now ≡ min (q.0.now + 1) (2 ^ 64 - 1) = search rules in
    let before = j.0 in
    (omega (arith, length-append xs (x ∷ [])), search rules)) in
    let n = kept.2.0 in
    let name = kept.2.1 in
    (kept.0, kept.1, search rules)
