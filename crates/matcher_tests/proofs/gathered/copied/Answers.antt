use Rattle.std.proofs.Common.{rules, arith, ap, ◌≡◌, ℕ, List, Option, Result, ◌++◌, refl, [], Ok, Err, OnOk, slice_range, length}
use Rattle.grep_matcher.specs.Cover.{IsLawful, IsFairCover}
use Rattle.grep_matcher.specs.Replaced.{replaced_from}
use Rattle.grep_matcher.specs.Span.{Span}
use Rattle.grep_matcher.proofs.GatheredLemmas.{replaced_all}
use Rattle.grep_matcher.proofs.ReplacedLemmas.{own_bytes, from_start, within_cover}
use Rattle.matcher_tests.proofs.gathered.copied.Goals as goal

-- the fair cover's own bytes are the haystack's
whole : {T E : Type 0} (r : Result T E) (old new haystack : List ℕ) {preferred : ℕ → Option ℕ} → IsLawful preferred (length haystack)
    → OnOk r ((spans : List Span) × IsFairCover preferred 0 (length haystack) spans × (new ≡ old ++ replaced_from (λ span. slice_range haystack span.start span.end) haystack 0 spans))
    → OnOk r (new ≡ old ++ haystack)
whole (Err e) old new haystack lawful h = tt
whole (Ok t) old new haystack lawful (spans, cover, same) =
    let back : replaced_from (λ span. slice_range haystack span.start span.end) haystack 0 spans ≡ haystack = own_bytes haystack 0 spans (from_start (length haystack) spans cover.in_turn (within_cover _ 0 (length haystack) spans lawful cover)) in
    cc

pub replace-requires-clause-keeps : goal.replace-requires-clause-keeps
replace-requires-clause-keeps g c f span d (Ok b) e f' called = (slice_range f.0.now span.start span.end, search rules)
replace-requires-clause-keeps g c f span d (Err error) e f' called = ([], search rules)

-- a call leaves the haystack that the closure holds as it is
pub replace-requires-clause-stays : goal.replace-requires-clause-stays
replace-requires-clause-stays g c f f' span takes (d, e, called) other within d' a p n p' n' v told fact u k k' l =
    let same : f'.0.now ≡ f.0.now = search rules in
    let ready = takes other within d' a p n p' n' v (omega (arith, told, ap length same), omega (arith, told, ap length same)) fact u k k' l in
    omega (arith, ready, ap length same)

pub returns : goal.returns
returns g c =
    let all = replaced_all _ _ c.args.haystack.now (λ span. slice_range c.args.haystack.now span.start span.end) (λ f. f.0.now ≡ c.args.haystack.now) (λ f span d e f' i called. search rules) (g.M.Matcher.preferred c.args.matcher.now c.args.haystack.now) (length c.args.haystack.now) 0 _ c.replace.result c.replace.new.dst.items c.replace.ensures.replaced refl (λ f span d e f' called. search rules) in
    whole _ _ _ _ (g.met.M.Matcher.lawful c.args.matcher.now c.args.haystack.now) all
