use Rattle.std.proofs.Common.{◌≡◌, ◌<◌, ℕ, List, length, Option, Some, None, rules, tests}
use Rattle.std.specs.Prelude.{IfSome, IfNone, MatchOption}
use Rattle.std.specs.List.{AllWithin, HoldsAt}
use Rattle.std.proofs.lemmas.Iterator.{IsFirst-from_position, YieldsList-from_slice}
use Rattle.walk_rest.specs.declared.level.Level.{Level}
use Rattle.walk_rest.specs.Level.{IsOpenEntries}
use Rattle.walk_steps.specs.Sound.{open_in, opens}
use Rattle.walk_steps.specs.Lists.{IsOldestOpen}
use Rattle.walk_steps.proofs.keep.KeepLemmas.{oldest_at, none_open}
use Rattle.walk_steps.proofs.keep.oldest_open.Goals as goal

abbrev IsFirstOpen : List Level → Option ℕ → Type 0
IsFirstOpen levels place =
    MatchOption place (AllWithin (λ (level : Level). open_in level.entries ≡ 0) levels 0 (length levels))
    (λ i. (i < length levels) × HoldsAt (λ (level : Level). IsOpenEntries level.entries) levels i × AllWithin (λ (level : Level). open_in level.entries ≡ 0) levels 0 i)

first : (c : goal.After-position) → IsFirstOpen c.args.levels.now c.position.result
first c = IsFirst-from_position _ _ c.position.result (λ (level : Level). IsOpenEntries level.entries) (λ (level : Level). open_in level.entries ≡ 0) c.position.ensures.ran (YieldsList-from_slice c.args.levels.now c.iter.ensures.rest) (λ x q k. search (rules, tests)) (λ x q k. search (rules, tests))

found : (levels : List Level) (place : Option ℕ) → IsFirstOpen levels place → IfSome place (IsOldestOpen levels)
found levels None h = tt
found levels (Some i) h = oldest_at levels i h.0 h.1 h.2

none : (levels : List Level) (place : Option ℕ) → IsFirstOpen levels place → IfNone place (opens levels ≡ 0)
none levels None h = none_open levels h
none levels (Some i) h = tt

pub returns-clause-found : goal.returns-clause-found
returns-clause-found c = found c.args.levels.now c.position.result (first c)

pub returns-clause-none : goal.returns-clause-none
returns-clause-none c = none c.args.levels.now c.position.result (first c)
