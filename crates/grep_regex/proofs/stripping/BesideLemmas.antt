-- Ranges without a number, one after the other.
use Rattle.std.proofs.Common.{◌≡◌, ◌↔◌, ◌⊎◌, inl, inr, ℕ, zero, suc, ◌+◌, ◌<◌, ◌≤◌, List, [], ◌∷◌, ◌++◌, length, take, get_or, ap, ◌∙◌, subst, append-nil, arith}
use Rattle.std.proofs.lemmas.List.{take_all, take_more}
use Rattle.std.proofs.lemmas.Grind.{flat_map-append}
use Rattle.hir_tree.specs.Ranges.{AreApart, Holds}
use Rattle.grep_regex.specs.Stripping.{beside, without}

-- what one of two lists holds
held-either : (xs ys : List (ℕ × ℕ)) (c : ℕ) → Holds (xs ++ ys) c ↔ (Holds xs c ⊎ Holds ys c)
held-either [] ys c = ((λ h. inr h), (λ h. elim h [ inl never ↦ absurd never | inr there ↦ there ]))
held-either (r ∷ xs) ys c =
    let rest = held-either xs ys c in (
      (λ h. elim h [
        | inl here ↦ inl (inl here)
        | inr later ↦ elim (rest.0 later) [ inl x ↦ inl (inr x) | inr y ↦ inr y ]
      ]),
      (λ h. elim h [
        | inl front ↦ elim front [ inl here ↦ inl here | inr x ↦ inr (rest.1 (inl x)) ]
        | inr y ↦ inr (rest.1 (inr y))
      ]),
    )

-- the ranges so far without a number hold what is held so far
abbrev pub AreWithout : (ℕ → Type 0) → ℕ → List (ℕ × ℕ) → List (ℕ × ℕ) → Type 0
AreWithout Counts b ranges done = (c : ℕ) → Counts c → Holds done c ↔ Holds (without b ranges) c

-- one range more
pub without-next : (Counts : ℕ → Type 0) (b i : ℕ) (ranges old new : List (ℕ × ℕ)) (r : ℕ × ℕ) → i < length ranges
    → get_or ranges i r ≡ r → ((c : ℕ) → Counts c → Holds new c ↔ (Holds old c ⊎ Holds (beside b r) c))
    → AreWithout Counts b (take i ranges) old → AreWithout Counts b (take (i + 1) ranges) new
without-next Counts b i ranges old new r within here added before c counts =
    let more : without b (take (i + 1) ranges) ≡ without b (take i ranges) ++ beside b r =
    ap (without b) (take_more ranges i r within ∙ ap (λ d. take i ranges ++ d ∷ []) here) ∙ flat_map-append (beside b) (take i ranges) (r ∷ [])
    ∙ ap (λ ys. without b (take i ranges) ++ ys) (append-nil (beside b r)) in
    let both = held-either (without b (take i ranges)) (beside b r) c in
    let add = added c counts in
    let now = before c counts in
    rw more (
      (λ h. both.1 (elim (add.0 h) [ inl x ↦ inl (now.0 x) | inr y ↦ inr y ])),
      (λ h. add.1 (elim (both.0 h) [ inl x ↦ inl (now.1 x) | inr y ↦ inr y ])),
    )

-- all ranges
pub without-all : (Counts : ℕ → Type 0) (b i : ℕ) (ranges done : List (ℕ × ℕ)) → length ranges ≤ i
    → AreWithout Counts b (take i ranges) done → AreWithout Counts b ranges done
without-all Counts b i ranges done past all = subst (λ (xs : List (ℕ × ℕ)). AreWithout Counts b xs done) (take_all i ranges past) all

-- a range ends where it begins or later
pub range-ordered : (next : ℕ → ℕ) (ranges : List (ℕ × ℕ)) (i : ℕ) (r : ℕ × ℕ) → AreApart next ranges → i < length ranges
    → get_or ranges i r ≡ r → r.0 ≤ r.1
range-ordered next [] i r apart within here = absurd (omega arith)
range-ordered next (s ∷ ranges) zero r apart within here = rw (← here) apart.0
range-ordered next (s ∷ ranges) (suc i) r apart within here = range-ordered next ranges i r apart.2 (omega arith) here
