-- The spans that a search finds from where it goes on.
use Rattle.std.proofs.Common.{◌≡◌, ℕ, ◌+◌, ◌≤◌, ◌⊎◌, inl, inr, List, ◌∷◌, arith, refl, sym, subst, Option, Some, None}
use Rattle.std.proofs.lemmas.Bool.{cases_lt, cases_eq}
use Rattle.grep_matcher.specs.Span.{Span}
use Rattle.grep_matcher.specs.Cover.{IsLawful, accepts, IsFirst, IsAfter}
use Rattle.grep_matcher.proofs.CoverLemmas.{Chain, after_span, chain_earlier, chain_exists, Decides}

-- what is known of the place where a search goes on: an end that is refused lies before it
pub record IsState (n from : ℕ) (skip : Option ℕ) : Type 0 where
  pub within : from ≤ n + 1
  pub before : (last : ℕ) → skip ≡ Some last → last ≤ from

module _ (preferred : ℕ → Option ℕ) (n : ℕ) (lawful : IsLawful preferred n) where
  decides : (skip : Option ℕ) → Decides (accepts skip preferred)
  decides None place = by_end (preferred place) refl
    where
      by_end : (o : Option ℕ) → preferred place ≡ o → ((end : ℕ) × accepts None preferred place end) ⊎ ((end : ℕ) → accepts None preferred place end → ⊥)
      by_end None e = inr (λ end p. let k : preferred place ≡ Some end = p.0 in cc)
      by_end (Some end) e = inl (end, (e, λ k. cc))
  decides (Some l) place = by_end (preferred place) refl
    where
      by_end : (o : Option ℕ) → preferred place ≡ o → ((end : ℕ) × accepts (Some l) preferred place end) ⊎ ((end : ℕ) → accepts (Some l) preferred place end → ⊥)
      by_end None e = inr (λ end p. let k : preferred place ≡ Some end = p.0 in cc)
      by_end (Some end) e = elim (cases_eq place l) [
        | inl a ↦ elim (cases_eq end place) [
          | inl b ↦ inr (λ other p. let k : preferred place ≡ Some other = p.0 in let same : Some l ≡ Some place = cc in p.1 same (let j : Some end ≡ Some other = cc in cc))
          | inr b ↦ inl (end, (e, λ k. b))
        ]
        | inr a ↦ inl (end, (e, λ k. absurd (a cc)))
      ]

  one : (skip : Option ℕ) (a b c : ℕ) → accepts skip preferred a b → accepts skip preferred a c → b ≡ c
  one skip a b c p q = let k : preferred a ≡ Some b = p.0 in let l : preferred a ≡ Some c = q.0 in cc

  up : (skip : Option ℕ) (place end : ℕ) → place ≤ n → accepts skip preferred place end → place ≤ end
  up skip place end le p = (lawful place end le p.0).0

  -- there is a chain from each state
  pub rest_exists : (skip : Option ℕ) (from : ℕ) → (xs : List Span) × Chain (accepts skip preferred) n from xs
  rest_exists skip from = chain_exists (n + 1) (accepts skip preferred) n from (one skip) (up skip) (decides skip) (omega arith)

  -- a span that is found, and the chain from where the search goes on
  pub chain_step : (skip : Option ℕ) (from next : ℕ) (x : Span) (xs : List Span) → IsState n from skip → IsFirst (accepts skip preferred) from n (Some x) → IsAfter x next
      → Chain (accepts (Some x.end) preferred) n next xs → Chain (accepts skip preferred) n from (x ∷ xs)
  chain_step skip from next x xs state first after h = (
    first.0,
    first.1,
    first.2,
    first.3,
    chain_earlier (accepts (Some x.end) preferred) (after_span (accepts skip preferred) x.end) n next x.end xs after.0
        (λ place end l r q. elim (cases_lt x.start x.end) [
          | inl lt ↦ absurd (let e : next ≡ x.end = after.2 lt in omega arith)
          | inr ge ↦ let rise = (lawful x.start x.end first.1 first.2.0).0 in let here : place ≡ x.start = omega arith in
              q.1 (omega arith) (one skip x.start end x.end (subst (λ (s : ℕ). accepts skip preferred s end) here q.0) first.2)
        ])
        (λ place end l q. older place end l q)
        (λ place end l q. (q.0.0, λ k e. let same : x.end ≡ place = cc in q.1 (sym same) (let b : end ≡ x.end = cc in b)))
        (λ place end l p. (lawful place end l p.0).0) h,
  )
    where
      older : (place end : ℕ) → next ≤ place → accepts (Some x.end) preferred place end → after_span (accepts skip preferred) x.end place end
      older place end l q = (
        (q.0, λ k e. let old : place ≤ from = state.before place k in let rise = (lawful x.start x.end first.1 first.2.0).0 in let i : x.end ≡ place = omega arith in let same : Some x.end ≡ Some place = cc in q.1 same e),
        λ a b. let same : Some x.end ≡ Some place = cc in let e : end ≡ place = cc in q.1 same e,
      )
