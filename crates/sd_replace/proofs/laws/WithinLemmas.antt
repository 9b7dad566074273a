-- What holds of all spans, and of matches.
use Rattle.std.proofs.Common.{ℕ, Bool, true, false, cond, List, [], ◌∷◌, ◌++◌, Option, Some, None}
use Rattle.std.specs.Prelude.{IfSome}
use Rattle.std.specs.List.{AllByRecursion}
use Rattle.grep_matcher.specs.Span.{Span}
use Rattle.sd_replace.specs.Replacement.{is_within, within_after}
use Rattle.sd_replace.specs.declared.replacer.Counted.{Counted}

-- what holds of each span holds of each that is within the limit
pub each_within : (P : Span → Type 0) (counted : Counted) (limit : ℕ) (bytes : List ℕ) (before spans : List Span) → AllByRecursion P spans → AllByRecursion P (within_after counted limit bytes before spans)
each_within P counted limit bytes before [] h = tt
each_within P counted limit bytes before (x ∷ xs) h = by (is_within counted limit bytes before x) (each_within P counted limit bytes (before ++ x ∷ []) xs h.1)
  where
    by : (b : Bool) → AllByRecursion P (within_after counted limit bytes (before ++ x ∷ []) xs) → AllByRecursion P (cond b (x ∷ []) [] ++ within_after counted limit bytes (before ++ x ∷ []) xs)
    by true rest = (h.0, rest)
    by false rest = rest

-- two facts of what an option holds
pub both : {X : Type 0} (P Q : X → Type 0) (o : Option X) → IfSome o P → IfSome o Q → IfSome o (λ x. P x × Q x)
both P Q None p q = tt
both P Q (Some x) p q = (p, q)
