use Rattle.std.proofs.Common.{rules, ◌≡◌, refl, [], Ok, Err}
use Rattle.grep_matcher.specs.References.{Adds, group_text}
use Rattle.grep_matcher.proofs.references.ReachedLemmas.{reached_keeps}
use Rattle.grep_matcher.proofs.references.ReferenceLemmas.{with_texts}
use Rattle.grep_matcher.proofs.captures.Captures.interpolate.Goals as goal

pub interpolate-requires-clause-keeps : goal.interpolate-requires-clause-keeps
interpolate-requires-clause-keeps g c f i d (Ok u) e h r called = (group_text f.0.now (g.Self.Captures.groups f.1.now) i, search rules)
interpolate-requires-clause-keeps g c f i d (Err error) e h r called = ([], search rules)

pub returns-clause-expanded : goal.returns-clause-expanded
returns-clause-expanded g c =
    with_texts c.interpolate.result _ (λ d. d.now.items) _ _ (λ name. name.now) _ c.args.dst.now.items c.interpolate.new.dst.items c.args.replacement.now
    (group_text c.args.haystack.now (g.Self.Captures.groups c.args.self.now)) c.interpolate.ensures.expanded
    (λ f i d answer e h r called.
    let same : (f.0.now ≡ c.args.haystack.now) × (f.1.now ≡ c.args.self.now)
    = reached_keeps (Adds _) _ (λ f. (f.0.now ≡ c.args.haystack.now) × (f.1.now ≡ c.args.self.now)) (refl, refl) (λ f h j calls. search rules) f r in
    search rules)
