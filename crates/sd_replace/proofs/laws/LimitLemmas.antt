-- What a limit over the whole leaves, and what no limit does.
use Rattle.std.proofs.Common.{◌≡◌, ℕ, zero, suc, ◌+◌, ◌<◌, Bool, true, cond, List, [], ◌∷◌, ◌++◌, take, arith, refl, ap, ◌∙◌}
use Rattle.std.proofs.lemmas.Bool.Decides.{nat_tests}
use Rattle.grep_matcher.specs.Span.{Span}
use Rattle.sd_replace.proofs.quota.QuotaLemmas.{none_within, one_more_counted}
use Rattle.sd_replace.specs.Replacement.{is_within, together_with, within_after}
use Rattle.sd_replace.specs.declared.replacer.Counted.{Counted}
use Rattle.sd_replace.specs.declared.replacer.Counted.TheVariants.{OverAll}

-- so many spans more are taken as the limit has left
first_after : (n left : ℕ) (bytes : List ℕ) (before spans : List Span) (place : ℕ) → 0 < n → together_with OverAll bytes place before + left ≡ n
    → within_after OverAll n bytes before spans ≡ take left spans
first_after n zero bytes before spans place some e = none_within n bytes place before spans some (omega arith)
first_after n (suc left) bytes before [] place some e = refl
first_after n (suc left) bytes before (x ∷ xs) place some e =
    let there : together_with OverAll bytes x.start before ≡ together_with OverAll bytes place before = refl in
    let fits : is_within OverAll n bytes before x ≡ true = grind (arith, nat_tests) in
    let more : together_with OverAll bytes x.start (before ++ x ∷ []) ≡ together_with OverAll bytes x.start before + 1 = one_more_counted OverAll bytes x.start before x refl in
    ap (λ (b : Bool). cond b (x ∷ []) [] ++ within_after OverAll n bytes (before ++ x ∷ []) xs) fits
    ∙ ap (λ (l : List Span). x ∷ l) (first_after n left bytes (before ++ x ∷ []) xs x.start some (omega arith))

pub first_spans : (n : ℕ) (bytes : List ℕ) (spans : List Span) → 0 < n → within_after OverAll n bytes [] spans ≡ take n spans
first_spans n bytes spans some = first_after n n bytes [] spans 0 some (omega arith)

-- without a limit all are taken
all_after : (counted : Counted) (bytes : List ℕ) (before spans : List Span) → within_after counted 0 bytes before spans ≡ spans
all_after counted bytes before [] = refl
all_after counted bytes before (x ∷ xs) = ap (λ (l : List Span). x ∷ l) (all_after counted bytes (before ++ x ∷ []) xs)

pub all_spans : (counted : Counted) (bytes : List ℕ) (spans : List Span) → within_after counted 0 bytes [] spans ≡ spans
all_spans counted bytes spans = all_after counted bytes [] spans
