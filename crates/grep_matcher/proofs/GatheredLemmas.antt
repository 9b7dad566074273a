-- What a caller learns from the calls of its own closure.
use Rattle.std.proofs.Common.{◌≡◌, ◌≢◌, ℕ, inl, inr, List, [], ◌∷◌, refl, sym, subst, ◌++◌, append-nil, append_assoc, drop, slice_range, ap, ◌∙◌, Bool, true, false, Option, Result, Ok, Err, OnOk}
use Rattle.grep_matcher.specs.Span.{Span}
use Rattle.grep_matcher.specs.Cover.{IsFairCover}
use Rattle.grep_matcher.specs.Visits.{End, at_the_end, at_answer, broken_off, Visits, VisitsCover, IsStopped, IsAnswered}
use Rattle.grep_matcher.specs.Replaced.{Written, Replaces, replaced_from}

-- a fact that each call keeps holds of the whole list after all calls
module _ {F A R : Type 0} (step : F → A → R → F → Type 0) (more : R) (J : List A → F → Type 0) (keeps : (xs : List A) (q : F) (x : A) (v : F) → J xs q → step q x more v → J (xs ++ (x ∷ [])) v) where
  keep_on : (done xs : List A) (f last : F) → Visits step more f xs at_the_end last → J done f → J (done ++ xs) last
  keep_on done [] f last v j = subst (λ (ys : List A). J ys last) (sym (append-nil done)) (subst (λ (q : F). J done q) (sym v.1) j)
  keep_on done (x ∷ xs) f last (inl v) j = absurd (let e : at_the_end ≡ broken_off = v.0 in cc)
  keep_on done (x ∷ xs) f last (inr (inl v)) j = absurd (let e : at_the_end ≡ at_answer v.0 = v.2 in cc)
  keep_on done (x ∷ xs) f last (inr (inr v)) j = subst (λ (ys : List A). J ys last) (append_assoc done (x ∷ []) xs) (keep_on (done ++ (x ∷ [])) xs v.0 last v.2 (keeps done f x v.0 j v.1))

-- where the calls ended at an answer, there was a call that gave it
module _ {F A R : Type 0} (step : F → A → R → F → Type 0) (more : R) where
  called_last : (r : R) (xs : List A) (f last : F) → Visits step more f xs (at_answer r) last → (g : F) × (x : A) × step g x r last × (r ≢ more)
  called_last r [] f last v = absurd (elim v.0 [ inl e ↦ (let k : at_answer r ≡ at_the_end = e in cc) | inr e ↦ (let k : at_answer r ≡ broken_off = e in cc) ])
  called_last r (x ∷ xs) f last (inl v) = absurd (let e : at_answer r ≡ broken_off = v.0 in cc)
  called_last r (x ∷ xs) f last (inr (inl v)) = let e : at_answer r ≡ at_answer v.0 = v.2 in let s : v.0 ≡ r = cc in
      (f, x, subst (λ (q : R). step f x q last) s v.3, λ k. v.1 (let k' : r ≡ more = k in cc))
  called_last r (x ∷ xs) f last (inr (inr v)) = called_last r xs v.0 last v.2

module _ {F R : Type 0} {step : F → Span → R → F → Type 0} {more : R} {preferred : ℕ → Option ℕ} {n at : ℕ} {f last : F} where
  -- what all the calls keep: J relates the closure at first, the spans so far and the closure then
  pub visits_keep : VisitsCover step more preferred n at f at_the_end last → (J : F → List Span → F → Type 0) → J f [] f
      → (keeps : (xs : List Span) (q : F) (x : Span) (v : F) → J f xs q → step q x more v → J f (xs ++ (x ∷ [])) v) → (spans : List Span) × IsFairCover preferred at n spans × J f spans last
  visits_keep v J start keeps = (v.spans, v.cover, keep_on step more (J f) keeps [] v.spans f last v.visits start)

-- a closure that never answers `false` is called at each span
module _ {F : Type 0} {step : F → Span → Bool → F → Type 0} {preferred : ℕ → Option ℕ} {n at : ℕ} {f last : F} where
  pub all_visited : (end : End Bool) → IsStopped end → VisitsCover step true preferred n at f end last → ((g : F) (x : Span) (h : F) → step g x false h → ⊥) → VisitsCover step true preferred n at f at_the_end last
  all_visited at_the_end stopped v never = v
  all_visited (at_answer true) stopped v never = absurd ((called_last step true true v.spans f last v.visits).3 refl)
  all_visited (at_answer false) stopped v never = let c = called_last step true false v.spans f last v.visits in absurd (never c.0 c.1 last c.2)
  all_visited broken_off stopped v never = absurd stopped

module _ {F E : Type 0} {step : F → Span → Result Bool E → F → Type 0} {preferred : ℕ → Option ℕ} {n at : ℕ} {f last : F} where
  pub all_tried : (end : End (Result Bool E)) (answer : Result (Unit {0}) E) (ok : Unit {0}) → IsAnswered end answer → answer ≡ Ok ok → VisitsCover step (Ok true) preferred n at f end last
      → ((g : F) (x : Span) (h : F) → step g x (Ok false) h → ⊥) → VisitsCover step (Ok true) preferred n at f at_the_end last
  all_tried end (Err e) ok answered is v never = absurd (cc)
  all_tried at_the_end (Ok u) ok answered is v never = v
  all_tried (at_answer (Ok true)) (Ok u) ok answered is v never = absurd ((called_last step (Ok true) (Ok true) v.spans f last v.visits).3 refl)
  all_tried (at_answer (Ok false)) (Ok u) ok answered is v never = let c = called_last step (Ok true) (Ok false) v.spans f last v.visits in absurd (never c.0 c.1 last c.2)
  all_tried (at_answer (Err e)) (Ok u) ok answered is v never = absurd answered
  all_tried broken_off (Ok u) ok answered is v never = absurd answered

-- what a closure writes that goes on at each span, and adds its text there
module _ {F D E : Type 0} (call : F → Span → D → Result Bool E → D → F → Type 0) (bytes_of : D → List ℕ) (haystack : List ℕ) (text_of : Span → List ℕ) (I : F → Type 0)
    (each : (f : F) (span : Span) (before after : D) (g : F) → I f → call f span before (Ok true) after g → (bytes_of after ≡ bytes_of before ++ text_of span) × I g) where
  written : (spans : List Span) (p last : Written F) → I p.closure → Visits (Replaces call bytes_of haystack) (Ok true) p spans at_the_end last
      → last.bytes ++ drop last.at haystack ≡ p.bytes ++ replaced_from text_of haystack p.at spans
  written [] p last i v = ap (λ (w : Written F). w.bytes ++ drop w.at haystack) v.1
  written (x ∷ xs) p last i (inl v) = absurd (let e : at_the_end ≡ broken_off = v.0 in cc)
  written (x ∷ xs) p last i (inr (inl v)) = absurd (let e : at_the_end ≡ at_answer v.0 = v.2 in cc)
  written (x ∷ xs) p last i (inr (inr (q, (before, after, copied, called, same, ends), rest))) =
      let more = each p.closure x before after q.closure i called in
      let later : last.bytes ++ drop last.at haystack ≡ q.bytes ++ replaced_from text_of haystack q.at xs = written xs q last more.1 rest in
      let all : q.bytes ≡ (p.bytes ++ slice_range haystack p.at x.start) ++ text_of x = (let m = more.0 in cc) in
      let there : q.bytes ++ replaced_from text_of haystack q.at xs ≡ ((p.bytes ++ slice_range haystack p.at x.start) ++ text_of x) ++ replaced_from text_of haystack x.end xs = cc in
      later ∙ (there ∙ simp append_assoc)

  module _ {T G : Type 0} (preferred : ℕ → Option ℕ) (n at : ℕ) (start : Written F) where
    pub replaced_all : (r : Result T G) (out : List ℕ)
        → OnOk r ((last : Written F) × (end : End (Result Bool E)) × IsAnswered end (Ok tt) × VisitsCover (Replaces call bytes_of haystack) (Ok true) preferred n at start end last × (out ≡ last.bytes ++ drop last.at haystack))
        → I start.closure → ((f : F) (span : Span) (before after : D) (g : F) → call f span before (Ok false) after g → ⊥)
        → OnOk r ((spans : List Span) × IsFairCover preferred at n spans × (out ≡ start.bytes ++ replaced_from text_of haystack start.at spans))
    replaced_all (Err e) out v i never = tt
    replaced_all (Ok t) out (last, end, answered, v, same) i never =
        let whole = all_tried end (Ok tt) tt answered refl v (λ p x q step. never p.closure x step.0 step.1 q.closure step.3) in
        (whole.spans, whole.cover, same ∙ written whole.spans start last i whole.visits)

    -- and what all its calls keep: a relation of the closure at first, the spans so far and the closure then
    pub replaced_keep : (closure : F) (Keeps : F → List Span → F → Type 0) → Keeps start.closure [] start.closure
        → ((xs : List Span) (q : F) (span : Span) (before after : D) (v : F) → Keeps start.closure xs q → call q span before (Ok true) after v → Keeps start.closure (xs ++ (span ∷ [])) v)
        → (r : Result T G) (out : List ℕ)
        → OnOk r ((last : Written F) × (end : End (Result Bool E)) × IsAnswered end (Ok tt) × VisitsCover (Replaces call bytes_of haystack) (Ok true) preferred n at start end last × (out ≡ last.bytes ++ drop last.at haystack) × (last.closure ≡ closure))
        → I start.closure → ((f : F) (span : Span) (before after : D) (g : F) → call f span before (Ok false) after g → ⊥)
        → OnOk r ((spans : List Span) × IsFairCover preferred at n spans × (out ≡ start.bytes ++ replaced_from text_of haystack start.at spans) × Keeps start.closure spans closure)
    replaced_keep closure Keeps none keeps (Err e) out v i never = tt
    replaced_keep closure Keeps none keeps (Ok t) out (last, end, answered, v, same, left) i never =
        let whole = all_tried end (Ok tt) tt answered refl v (λ p x q step. never p.closure x step.0 step.1 q.closure step.3) in
        let kept : Keeps start.closure whole.spans last.closure =
        keep_on (Replaces call bytes_of haystack) (Ok true) (λ xs q. Keeps start.closure xs q.closure) (λ xs q x v j step. keeps xs q.closure x step.0 step.1 v.closure j step.3) [] whole.spans start last whole.visits none in
        (whole.spans, whole.cover, same ∙ written whole.spans start last i whole.visits, subst (λ (g : F). Keeps start.closure whole.spans g) left kept)

-- a list that equals the fair cover is it
pub same_cover : (preferred : ℕ → Option ℕ) (at n : ℕ) (xs ys : List Span) → IsFairCover preferred at n xs → ys ≡ xs → IsFairCover preferred at n ys
same_cover preferred at n xs ys cover same = subst (λ (zs : List Span). IsFairCover preferred at n zs) (sym same) cover
