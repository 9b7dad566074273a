-- The calls of a closure along the fair cover, as a search goes on.
use Rattle.std.proofs.Common.{◌≡◌, ◌≢◌, ℕ, ◌+◌, ◌≤◌, ◌⊎◌, inl, inr, List, [], ◌∷◌, arith, refl, sym, subst, ◌++◌, append_assoc, drop, slice_range, ◌∙◌, Bool, Option, Some, None, Result, Ok, Err, OnOk, OnErr, IfOk}
use Rattle.std.specs.Prelude.{IfSome, IfErr}
use Rattle.std.proofs.lemmas.Bool.{cases_lt, cases_eq}
use Rattle.grep_matcher.specs.Span.{Span}
use Rattle.grep_matcher.specs.Callable.{StaysCallable}
use Rattle.grep_matcher.specs.Cover.{IsLawful, IsFairCover, prefers, accepts, IsFirst, IsAfter}
use Rattle.grep_matcher.specs.declared.fault.Fault.{Fault}
use Rattle.grep_matcher.specs.declared.fault.Fault.TheVariants.{Matcher, NoMemory}
use Rattle.grep_matcher.specs.Faults.{IsCaused}
use Rattle.grep_matcher.specs.Visits.{End, at_the_end, at_answer, broken_off, Visits, VisitsCover, IsStopped, IsAnswered}
use Rattle.grep_matcher.specs.Replaced.{Written, Replaces, Extends, LiesWithin}
use Rattle.grep_matcher.proofs.laws.CoverLemmas.{Chain, after_span, chain_earlier, chain_exists, cover_from_chain, Decides}

-- what is known of the place where a search goes on: an end that is refused lies before it
pub record IsState (n from : ℕ) (skip : Option ℕ) : Type 0 where
  pub within : from ≤ n + 1
  pub before : (last : ℕ) → skip ≡ Some last → last ≤ from

module _ (preferred : ℕ → Option ℕ) (n : ℕ) (lawful : IsLawful preferred n) where
  decides : (skip : Option ℕ) → Decides (accepts skip preferred)
  decides None place = by_end (preferred place) refl
    where
      by_end : (o : Option ℕ) → preferred place ≡ o → ((end : ℕ) × accepts None preferred place end) ⊎ ((end : ℕ) → accepts None preferred place end → ⊥)
      by_end None e = inr (λ end p. let k : preferred place ≡ Some end = p.0 in cc)
      by_end (Some end) e = inl (end, (e, λ k. cc))
  decides (Some l) place = by_end (preferred place) refl
    where
      by_end : (o : Option ℕ) → preferred place ≡ o → ((end : ℕ) × accepts (Some l) preferred place end) ⊎ ((end : ℕ) → accepts (Some l) preferred place end → ⊥)
      by_end None e = inr (λ end p. let k : preferred place ≡ Some end = p.0 in cc)
      by_end (Some end) e = elim (cases_eq place l) [
        | inl a ↦ elim (cases_eq end place) [
          | inl b ↦ inr (λ other p. let k : preferred place ≡ Some other = p.0 in let same : Some l ≡ Some place = cc in p.1 same (let j : Some end ≡ Some other = cc in cc))
          | inr b ↦ inl (end, (e, λ k. b))
        ]
        | inr a ↦ inl (end, (e, λ k. absurd (a cc)))
      ]

  one : (skip : Option ℕ) (a b c : ℕ) → accepts skip preferred a b → accepts skip preferred a c → b ≡ c
  one skip a b c p q = let k : preferred a ≡ Some b = p.0 in let l : preferred a ≡ Some c = q.0 in cc

  up : (skip : Option ℕ) (place end : ℕ) → place ≤ n → accepts skip preferred place end → place ≤ end
  up skip place end le p = (lawful place end le p.0).0

  -- there is a chain from each state
  pub rest_exists : (skip : Option ℕ) (from : ℕ) → (xs : List Span) × Chain (accepts skip preferred) n from xs
  rest_exists skip from = chain_exists (n + 1) (accepts skip preferred) n from (one skip) (up skip) (decides skip) (omega arith)

  -- a span that is found, and the chain from where the search goes on
  pub chain_step : (skip : Option ℕ) (from next : ℕ) (x : Span) (xs : List Span) → IsState n from skip → IsFirst (accepts skip preferred) from n (Some x) → IsAfter x next
      → Chain (accepts (Some x.end) preferred) n next xs → Chain (accepts skip preferred) n from (x ∷ xs)
  chain_step skip from next x xs state first after h = (
    first.0,
    first.1,
    first.2,
    first.3,
    chain_earlier (accepts (Some x.end) preferred) (after_span (accepts skip preferred) x.end) n next x.end xs after.0
        (λ place end l r q. elim (cases_lt x.start x.end) [
          | inl lt ↦ absurd (let e : next ≡ x.end = after.2 lt in omega arith)
          | inr ge ↦ let rise = (lawful x.start x.end first.1 first.2.0).0 in let here : place ≡ x.start = omega arith in
              q.1 (omega arith) (one skip x.start end x.end (subst (λ (s : ℕ). accepts skip preferred s end) here q.0) first.2)
        ])
        (λ place end l q. older place end l q)
        (λ place end l q. (q.0.0, λ k e. let same : x.end ≡ place = cc in q.1 (sym same) (let b : end ≡ x.end = cc in b)))
        (λ place end l p. (lawful place end l p.0).0) h,
  )
    where
      older : (place end : ℕ) → next ≤ place → accepts (Some x.end) preferred place end → after_span (accepts skip preferred) x.end place end
      older place end l q = (
        (q.0, λ k e. let old : place ≤ from = state.before place k in let rise = (lawful x.start x.end first.1 first.2.0).0 in let i : x.end ≡ place = omega arith in let same : Some x.end ≡ Some place = cc in q.1 same e),
        λ a b. let same : Some x.end ≡ Some place = cc in let e : end ≡ place = cc in q.1 same e,
      )

module _ {F R : Type 0} (step : F → Span → R → F → Type 0) (more : R) (preferred : ℕ → Option ℕ) (n at : ℕ) (lawful : IsLawful preferred n) (f₀ : F) where
  -- the calls so far, before those at any chain from where the search goes on, are calls along the chain from `at`
  pub record Leads (f : F) (from : ℕ) (skip : Option ℕ) : Type 0 where
    pub state : IsState n from skip
    pub leads : (tail : List Span) (end : End R) (last : F) → Chain (accepts skip preferred) n from tail → Visits step more f tail end last
        → (spans : List Span) × Chain (prefers preferred) n at spans × Visits step more f₀ spans end last

  pub leads_start : at ≤ n → Leads f₀ at None
  leads_start le = record {
    state = record { within = omega arith; before = λ last k. cc };
    leads = λ tail end last h v. (tail, chain_earlier (accepts None preferred) (prefers preferred) n at at tail (omega arith) (λ place end l r p. absurd (omega arith)) (λ place end l p. p.0) (λ place end l p. (p, λ k. cc)) (λ place end l p. (lawful place end l p.0).0) h, v);
  }

  to_cover : (end : End R) (last : F) → (spans : List Span) × Chain (prefers preferred) n at spans × Visits step more f₀ spans end last → VisitsCover step more preferred n at f₀ end last
  to_cover end last all = record { spans = all.0; cover = cover_from_chain preferred at n all.0 lawful all.1; visits = all.2 }

  pub leads_more : (f g : F) (from next : ℕ) (skip : Option ℕ) (x : Span) → Leads f from skip → IsFirst (accepts skip preferred) from n (Some x) → IsAfter x next → step f x more g → Leads g next (Some x.end)
  leads_more f g from next skip x h first after called = record {
    state = next_state;
    leads = λ tail end last k v. h.leads (x ∷ tail) end last (chain_step preferred n lawful skip from next x tail h.state first after k) (inr (inr (g, called, v)));
  }
    where
      next_state : IsState n next (Some x.end)
      next_state = let ends = lawful x.start x.end first.1 first.2.0 in record { within = omega arith; before = λ last k. let same : x.end ≡ last = cc in omega arith }

  pub leads_end : (f : F) (from : ℕ) (skip : Option ℕ) → Leads f from skip → IsFirst (accepts skip preferred) from n None → VisitsCover step more preferred n at f₀ at_the_end f
  leads_end f from skip h none = to_cover at_the_end f (h.leads [] at_the_end f none (inl refl, refl))

  broken : (f : F) (xs : List Span) → Visits step more f xs broken_off f
  broken f [] = (inr refl, refl)
  broken f (x ∷ xs) = inl (refl, refl)

  pub leads_broken : (f : F) (from : ℕ) (skip : Option ℕ) → Leads f from skip → VisitsCover step more preferred n at f₀ broken_off f
  leads_broken f from skip h = let rest = rest_exists preferred n lawful skip from in to_cover broken_off f (h.leads rest.0 broken_off f rest.1 (broken f rest.0))

  pub leads_answer : (f g : F) (from : ℕ) (skip : Option ℕ) (x : Span) (r : R) → Leads f from skip → IsFirst (accepts skip preferred) from n (Some x) → step f x r g → r ≢ more → VisitsCover step more preferred n at f₀ (at_answer r) g
  leads_answer f g from skip x r h first called other = elim (cases_lt x.start x.end) [
    | inl lt ↦ by x.end (omega arith, omega arith, λ _. refl, λ e. absurd (omega arith))
    | inr ge ↦ by (x.end + 1) (omega arith, omega arith, λ lt. absurd (omega arith), λ _. refl)
  ]
    where
      by : (next : ℕ) → IsAfter x next → VisitsCover step more preferred n at f₀ (at_answer r) g
      by next after = let rest = rest_exists preferred n lawful (Some x.end) next in
          to_cover (at_answer r) g (h.leads (x ∷ rest.0) (at_answer r) g (chain_step preferred n lawful skip from next x rest.0 h.state first after rest.1) (inr (inl (r, other, refl, called))))

  -- the same, as a loop knows these facts
  pub turn : (f g : F) (from next : ℕ) (skip : Option ℕ) (o : Option Span) (x : Span) (r : R) (end : ℕ) → Leads f from skip → IsFirst (accepts skip preferred) from n o → o ≡ Some x → IsAfter x next → step f x r g → r ≡ more → end ≡ x.end → Leads g next (Some end)
  turn f g from next skip o x r end h first is after called same e =
      subst (λ (k : ℕ). Leads g next (Some k)) (sym e) (leads_more f g from next skip x h (subst (λ (p : Option Span). IsFirst (accepts skip preferred) from n p) is first) after (subst (λ (q : R). step f x q g) same called))

  pub stop : (f g : F) (from : ℕ) (skip : Option ℕ) (o : Option Span) (x : Span) (r : R) → Leads f from skip → IsFirst (accepts skip preferred) from n o → o ≡ Some x → step f x r g → r ≢ more → VisitsCover step more preferred n at f₀ (at_answer r) g
  stop f g from skip o x r h first is called other = leads_answer f g from skip x r h (subst (λ (p : Option Span). IsFirst (accepts skip preferred) from n p) is first) called other

  pub over : (f : F) (from : ℕ) (skip : Option ℕ) (o : Option Span) → Leads f from skip → IsFirst (accepts skip preferred) from n o → ((x : Span) → o ≡ Some x → ⊥) → VisitsCover step more preferred n at f₀ at_the_end f
  over f from skip None h first none = leads_end f from skip h first
  over f from skip (Some x) h first none = absurd (none x refl)

  pub stop_as : (f g : F) (from : ℕ) (skip : Option ℕ) (o : Option Span) (x : Span) (r s : R) → Leads f from skip → IsFirst (accepts skip preferred) from n o → o ≡ Some x → step f x r g → r ≡ s → s ≢ more → VisitsCover step more preferred n at f₀ (at_answer s) g
  stop_as f g from skip o x r s h first is called same other = stop f g from skip o x s h first is (subst (λ (q : R). step f x q g) same called) other

-- the first span lies in the haystack
pub first_within : (skip : Option ℕ) (preferred : ℕ → Option ℕ) (at n : ℕ) (o : Option Span) → IsLawful preferred n → IsFirst (accepts skip preferred) at n o → IfSome o (LiesWithin n)
first_within skip preferred at n None lawful first = tt
first_within skip preferred at n (Some span) lawful first = lawful span.start span.end first.1 first.2.0

-- a closure that stays callable may be called again after an answer `more`
pub still : {F A R : Type 0} (takes : F → Type 0) (step : F → A → R → F → Type 0) (more : R) (f g : F) (x : A) (r : R) → StaysCallable takes step more → takes f → step f x r g → r ≡ more → takes g
still takes step more f g x r stays ready called same = stays f g x ready (subst (λ (q : _). step f x q g) same called)

-- want of memory may come at any time
pub memory_caused : {T E : Type 0} (may_fail : E → Type 0) (r : Result T (Fault E)) → IfErr r (λ fault. fault ≡ NoMemory) → IfErr r (IsCaused may_fail)
memory_caused may_fail (Ok t) is = tt
memory_caused may_fail (Err NoMemory) is = tt
memory_caused may_fail (Err (Matcher error)) is = absurd (cc)

pub on_err : {T E : Type 0} (r : Result T E) (P : Type 0) → P → OnErr r P
on_err (Ok t) P p = tt
on_err (Err e) P p = p

pub on_ok_weaker : {T E : Type 0} (r : Result T E) (P Q : Type 0) → (P → Q) → OnOk r P → OnOk r Q
on_ok_weaker (Ok t) P Q f p = f p
on_ok_weaker (Err e) P Q f p = tt

pub on_err_weaker : {T E : Type 0} (r : Result T E) (P Q : Type 0) → (P → Q) → OnErr r P → OnErr r Q
on_err_weaker (Ok t) P Q f p = tt
on_err_weaker (Err e) P Q f p = f p

module _ {F R T E : Type 0} (step : F → Span → R → F → Type 0) (more : R) (preferred : ℕ → Option ℕ) (n at : ℕ) (f last : F) where
  pub some_last : (r : Result T E) → OnOk r ((end : End R) × IsStopped end × VisitsCover step more preferred n at f end last)
      → OnOk r ((last : F) × (end : End R) × IsStopped end × VisitsCover step more preferred n at f end last)
  some_last (Ok t) v = (last, v.0, v.1, v.2)
  some_last (Err e) v = tt

  pub some_last_broken : (r : Result T E) → OnErr r (VisitsCover step more preferred n at f broken_off last) → OnErr r ((last : F) × VisitsCover step more preferred n at f broken_off last)
  some_last_broken (Ok t) v = tt
  some_last_broken (Err e) v = (last, v)

module _ {F E D : Type 0} (step : F → Span → Result Bool E → F → Type 0) (more : Result Bool E) (preferred : ℕ → Option ℕ) (n at : ℕ) (f last : F) where
  pub some_last_tried : (r : Result (Result (Unit {0}) E) D) → IfOk r (λ answer. (end : End (Result Bool E)) × IsAnswered end answer × VisitsCover step more preferred n at f end last)
      → IfOk r (λ answer. (last : F) × (end : End (Result Bool E)) × IsAnswered end answer × VisitsCover step more preferred n at f end last)
  some_last_tried (Ok t) v = (last, v.0, v.1, v.2)
  some_last_tried (Err e) v = tt

module _ {F E T D : Type 0} {step : Written F → Span → Result Bool E → Written F → Type 0} {more : Result Bool E} {preferred : ℕ → Option ℕ} {n at : ℕ} {f last : Written F} where
  -- what a replacing call has written, once the rest is copied, and in which state it left the closure
  pub written_by : (r : Result T D) (out haystack : List ℕ) (closure : F) (end : End (Result Bool E)) → IsAnswered end (Ok tt) → VisitsCover step more preferred n at f end last → last.closure ≡ closure → OnOk r (out ≡ last.bytes ++ drop last.at haystack)
      → OnOk r ((last : Written F) × (end : End (Result Bool E)) × IsAnswered end (Ok tt) × VisitsCover step more preferred n at f end last × (out ≡ last.bytes ++ drop last.at haystack) × (last.closure ≡ closure))
  written_by (Ok t) out haystack closure end answered v left same = (last, end, answered, v, same, left)
  written_by (Err d) out haystack closure end answered v left same = tt

module _ {F E T D : Type 0} (step : Written F → Span → Result Bool E → Written F → Type 0) (more : Result Bool E) (preferred : ℕ → Option ℕ) (n at : ℕ) (f : Written F) where
  -- the same without the state
  pub written_forgets : (r : Result T D) (out haystack : List ℕ) (closure : F)
      → OnOk r ((last : Written F) × (end : End (Result Bool E)) × IsAnswered end (Ok tt) × VisitsCover step more preferred n at f end last × (out ≡ last.bytes ++ drop last.at haystack) × (last.closure ≡ closure))
      → OnOk r ((last : Written F) × (end : End (Result Bool E)) × IsAnswered end (Ok tt) × VisitsCover step more preferred n at f end last × (out ≡ last.bytes ++ drop last.at haystack))
  written_forgets (Ok t) out haystack closure (last, end, answered, v, same, left) = (last, end, answered, v, same)
  written_forgets (Err d) out haystack closure w = tt

pub replaced_one : {F D R : Type 0} (call : F → Span → D → R → D → F → Type 0) (bytes_of : D → List ℕ) (haystack : List ℕ) (p : Written F) (span : Span) (before : D) (r : R) (after : D) (g : F) (at : ℕ)
    → call p.closure span before r after g → bytes_of before ≡ p.bytes ++ slice_range haystack p.at span.start → at ≡ span.end → Replaces call bytes_of haystack p span r (record { closure = g; at = at; bytes = bytes_of after })
replaced_one call bytes_of haystack p span before r after g at called copied ends = (before, after, copied, called, refl, ends)

pub extends_more : (a b c d x : List ℕ) → Extends a b → c ≡ b ++ x → Extends c d → Extends a d
extends_more a b c d x (y, e) f (z, h) = (y ++ (x ++ z), (let k : d ≡ ((a ++ y) ++ x) ++ z = cc in k) ∙ simp append_assoc)

-- there is a fair cover from each place
pub cover_exists : (preferred : ℕ → Option ℕ) (at n : ℕ) → IsLawful preferred n → (spans : List Span) × IsFairCover preferred at n spans
cover_exists preferred at n lawful =
    let rest = rest_exists preferred n lawful None at in (
      rest.0,
      cover_from_chain preferred at n rest.0 lawful
          (chain_earlier (accepts None preferred) (prefers preferred) n at at rest.0 (omega arith) (λ place end l r p. absurd (omega arith)) (λ place end l p. p.0) (λ place end l p. (p, λ k. cc)) (λ place end l p. (lawful place end l p.0).0) rest.1),
    )
