use Rattle.std.proofs.Common.{rules, ◌≡◌, ◌+◌, ◌-◌, ◌^◌, length, min, refl, [], ◌∷◌, Ok, Err, arith, length-append}
use Rattle.grep_matcher.proofs.GatheredLemmas.{replaced_keep}
use Rattle.matcher_tests.proofs.gathered.replaced_and_counted.Goals as goal

pub replace_with_captures_at_by-requires-clause-keeps : goal.replace_with_captures_at_by-requires-clause-keeps
replace_with_captures_at_by-requires-clause-keeps g c f x d (Ok b) e f' called = (f.1.now, search rules)
replace_with_captures_at_by-requires-clause-keeps g c f x d (Err error) e f' called = ([], search rules)

pub returns : goal.returns
returns g c =
    let all = replaced_keep _ _ _ (λ _. c.args.text.now) (λ f. f.1.now ≡ c.args.text.now) (λ f span d e f' i called. let step = called.2 in search rules) {G = Unit {0}} _ _ _ _ c.replace_with_captures_at_by.new.append
    (λ f xs q. (q.0.now ≡ min (length xs) (2 ^ 64 - 1)) × (q.0.ghost_name ≡ f.0.ghost_name)) (refl, refl)
    (λ xs q x d e v j called. let step = called.2 in let one : v.0.now ≡ min (q.0.now + 1) (2 ^ 64 - 1) = search rules in let before = j.0 in (omega (arith, length-append xs (x ∷ [])), search rules))
    (Ok (tt {0})) c.replace_with_captures_at_by.new.dst.items c.in_ok-replace_with_captures_at_by.ensures.replaced refl (λ f span d e f' called. let step = called.2 in search rules) in
    let n = all.3.0 in
    let name = all.3.1 in
    (all.0, all.1, all.2, search rules)
