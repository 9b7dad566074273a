-- What is known while spans are counted.
use Rattle.std.specs.Prelude.{◌≡◌, ◌<◌, ◌≤◌, ℕ, List, All, min}
use Rattle.grep_matcher.specs.Span.{Span}
use Rattle.sd_replace.specs.Replacement.{Replacement, together_with}
use Rattle.sd_replace.specs.declared.quota.Quota.{Quota}

-- The spans so far begin at the quota's place or before it, and so many of them, up to the limit, are counted together with it.
pub record HasCounted (quota : Quota) (spans : List Span) : Type 0 where
  pub behind : All (λ span. span.start ≤ quota.place) spans
  pub used : quota.used ≡ min quota.limit (together_with quota.counted quota.content.now quota.place spans)

-- what a quota knows of the spans so far: nothing, where there is no limit
abbrev pub Knows : Quota → List Span → Type 0
Knows quota spans = 0 < quota.limit → HasCounted quota spans

-- the quota is that of a replacer for these bytes
pub record Limits (quota : Quota) (replacement : Replacement) (bytes : List ℕ) : Type 0 where
  pub content : quota.content.now ≡ bytes
  pub counted : quota.counted ≡ replacement.counted
  pub limit : quota.limit ≡ replacement.limit
