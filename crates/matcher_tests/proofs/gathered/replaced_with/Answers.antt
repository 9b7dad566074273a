use Rattle.std.proofs.Common.{rules, ◌≡◌, refl, [], Ok, Err}
use Rattle.grep_matcher.proofs.GatheredLemmas.{replaced_all}
use Rattle.matcher_tests.proofs.gathered.replaced_with.Goals as goal

pub replace-requires-clause-keeps : goal.replace-requires-clause-keeps
replace-requires-clause-keeps g c f span d (Ok b) e f' called = (f.0.now, search rules)
replace-requires-clause-keeps g c f span d (Err error) e f' called = ([], search rules)

pub returns : goal.returns
returns g c = replaced_all _ _ _ (λ _. c.args.text.now) (λ f. f.0.now ≡ c.args.text.now) (λ f span d e f' i called. search rules) _ _ _ _ _ _ c.replace.ensures.replaced refl (λ f span d e f' called. search rules)
