-- Runs of characters split one way.
use Rattle.std.proofs.Common.{◌≡◌, ℕ, ◌+◌, ◌<◌, ◌≤◌, Bool, true, false, List, [], ◌∷◌, ◌++◌, if◌then◌else◌, length, drop, get_or, refl, sym, ap, ◌∙◌, arith, length-append, ⊎_elim}
use Rattle.std.proofs.lemmas.Bool.{and_parts, and_from, both_ways, cases_Bool, cases_lt, eqb-true}
use Rattle.std.proofs.lemmas.List.{drop_all}
use Rattle.std.proofs.lemmas.List.Folds.{drop_split}
use Rattle.std.specs.List.{slice_range, list_all}
use Rattle.pattern_syntax.specs.Flags.{begins}
use Rattle.pattern_syntax.specs.Runs.{behind, comes}
use Rattle.pattern_syntax.proofs.BlanksLemmas.{cut_at}
use Rattle.pattern_syntax.proofs.SameBlanks.{head, tail}

behind_pass : (p : ℕ → Bool) (c : ℕ) (t : List ℕ) → p c ≡ true → behind p (c ∷ t) ≡ behind p t
behind_pass p c t e = ap (λ b. if b then behind p t else c ∷ t) e

behind_stop : (p : ℕ → Bool) (c : ℕ) (t : List ℕ) → p c ≡ false → behind p (c ∷ t) ≡ c ∷ t
behind_stop p c t e = ap (λ b. if b then behind p t else c ∷ t) e

stops_behind : (p : ℕ → Bool) (t : List ℕ) → comes p (behind p t) ≡ false
stops_behind p [] = refl
stops_behind p (c ∷ t) =
    ⊎_elim
    (λ yes. ap (comes p) (behind_pass p c t yes) ∙ stops_behind p t)
    (λ no. ap (comes p) (behind_stop p c t no) ∙ no)
    (cases_Bool (p c))

longer : (c : ℕ) (cs u : List ℕ) → u ≡ c ∷ (cs ++ u) → ⊥
longer c cs u e = let l : length u ≡ length (c ∷ (cs ++ u)) = ap length e in omega (arith, length-append cs u, l)

-- what stands before what is left passes
run_passes : (p : ℕ → Bool) (cs u : List ℕ) → u ≡ behind p (cs ++ u) → list_all p cs ≡ true
run_passes p [] u e = refl
run_passes p (c ∷ cs) u e =
    ⊎_elim
    (λ yes. and_from (p c) (list_all p cs) yes (run_passes p cs u (e ∙ behind_pass p c (cs ++ u) yes)))
    (λ no. absurd (longer c cs u (e ∙ behind_stop p c (cs ++ u) no)))
    (cases_Bool (p c))

-- the same text has one run
pub one_run : (p : ℕ → Bool) (cs ds t u : List ℕ) → list_all p cs ≡ true → list_all p ds ≡ true → comes p t ≡ false → comes p u ≡ false → cs ++ t ≡ ds ++ u
    → (cs ≡ ds) × (t ≡ u)
one_run p [] [] t u a b x y e = (refl, e)
one_run p [] (d ∷ ds) t u a b x y e = absurd (both_ways (p d) (sym (ap (comes p) e) ∙ x) (and_parts (p d) (list_all p ds) b).0)
one_run p (c ∷ cs) [] t u a b x y e = absurd (both_ways (p c) (ap (comes p) e ∙ y) (and_parts (p c) (list_all p cs) a).0)
one_run p (c ∷ cs) (d ∷ ds) t u a b x y e =
    let more = one_run p cs ds t u (and_parts (p c) (list_all p cs) a).1 (and_parts (p d) (list_all p ds) b).1 x y (ap tail e) in
    (ap (λ c. c ∷ cs) (ap head e) ∙ ap (λ cs. d ∷ cs) more.0, more.1)

-- the characters between two places are a run
pub record RunAt (p : ℕ → Bool) (text : List ℕ) (at end : ℕ) : Type 0 where
  pub written : drop at text ≡ slice_range text at end ++ drop end text
  pub passes : list_all p (slice_range text at end) ≡ true
  pub stops : comes p (drop end text) ≡ false

pub run_at : (p : ℕ → Bool) (text : List ℕ) (at end : ℕ) → at ≤ end → drop end text ≡ behind p (drop at text) → RunAt p text at end
run_at p text at end onward e =
    let w = drop_split text at end onward in
    record {
      written = w;
      passes = run_passes p (slice_range text at end) (drop end text) (e ∙ ap (behind p) w);
      stops = ap (comes p) e ∙ stops_behind p (drop at text);
    }

-- a character that comes next, and the text behind it
pub record NextIs (c : ℕ) (text : List ℕ) (at : ℕ) : Type 0 where
  pub within : at < length text
  pub written : drop at text ≡ c ∷ drop (at + 1) text

pub next_is : (c : ℕ) (text : List ℕ) (at : ℕ) → begins c (drop at text) ≡ true → NextIs c text at
next_is c text at h =
    ⊎_elim
    (λ lt.
    let cut : drop at text ≡ get_or text at 0 ∷ drop (at + 1) text = cut_at text at 0 lt in
    let same : get_or text at 0 ≡ c = eqb-true (get_or text at 0) c (sym (ap (begins c) cut) ∙ h) in
    record { within = lt; written = cut ∙ ap (λ d. d ∷ drop (at + 1) text) same })
    (λ le. absurd (both_ways (begins c (drop at text)) (ap (begins c) (drop_all at text le)) h))
    (cases_lt at (length text))
