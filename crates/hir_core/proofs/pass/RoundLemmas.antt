-- The threads of a place, followed one after another.
use Rattle.std.proofs.Common.{◌≡◌, ℕ, zero, suc, ◌+◌, ◌-◌, ◌<◌, ◌≤◌, Bool, true, false, inl, inr, List, [], ◌∷◌, ◌++◌, length, Option, Some, None, refl, sym, ap, ◌∙◌, subst, true≢false, append-nil, append_assoc, add-one, arith}
use Rattle.std.specs.Prelude.{drop, slice_get, is_some}
use Rattle.std.specs.Option.{option_or}
use Rattle.std.proofs.lemmas.Grind.{flat_map-append}
use Rattle.hir_tree.specs.Runs.{Run, begin}
use Rattle.hir_program.specs.Program.{way, some_run}
use Rattle.hir_core.specs.Trails.{Stop}
use Rattle.hir_core.specs.Pass.{first_of, stop_gives, stops_give, begins, begins_unless, first_from, answer, Spent, Followed, AllLater, AllFrom}
use Rattle.hir_program.specs.declared.spot.Spot.{Spot}
use Rattle.hir_tree.proofs.ListLemmas.{All-weaker}
use Rattle.hir_core.proofs.pass.PassLemmas.{first_of_two}

-- what comes after doesn't matter to two lists of which the first runs are the same
pub first_then : (xs ys zs : List Run) → first_of xs ≡ first_of ys → first_of (xs ++ zs) ≡ first_of (ys ++ zs)
first_then xs ys zs e = first_of_two xs zs ∙ ap (λ r. option_or r (first_of zs)) e ∙ sym (first_of_two ys zs)

pub or_else_some : (x y : Option Run) (r : Run) → option_or (option_or x (Some r)) y ≡ option_or x (Some r)
or_else_some None y r = refl
or_else_some (Some x) y r = refl

pub or_assoc₂ : (x y z : Option Run) → option_or x (option_or y z) ≡ option_or (option_or x y) z
or_assoc₂ None y z = refl
or_assoc₂ (Some x) y z = refl

pub or_assoc : (x y z w : Option Run) → option_or x (option_or (option_or y z) w) ≡ option_or (option_or x y) (option_or z w)
or_assoc None None z w = refl
or_assoc None (Some y) z w = refl
or_assoc (Some x) y z w = refl

-- What the loop over the threads of a place keeps true.
pub record Rounds (text : List ℕ) (spots : List Spot) (at : ℕ) (goal : Option Run) (bits : List Bool) (kept threads : List Stop) : Type 0 where
  pub from : AllFrom text at threads
  pub later : AllLater text at kept
  pub spent : Spent text spots at bits (some_run (stops_give text spots kept))
  pub finds : first_of (stops_give text spots kept ++ stops_give text spots threads) ≡ goal

module _ (text : List ℕ) (spots : List Spot) (at : ℕ) (goal : Option Run) (bits : List Bool) (kept rest threads : List Stop) (p : Stop)
    (e : threads ≡ p ∷ rest) (h : Rounds text spots at goal bits kept threads) where
  apart_from : AllFrom text at (p ∷ rest)
  apart_from = subst (AllFrom text at) e h.from

  apart_finds : first_of (stops_give text spots kept ++ (stop_gives text spots p ++ stops_give text spots rest)) ≡ goal
  apart_finds = ap (λ ps. first_of (stops_give text spots kept ++ stops_give text spots ps)) (sym e) ∙ h.finds

  pub Rounds-at : (at ≤ p.1.run.at) × (p.1.run.at ≤ length text)
  Rounds-at = apart_from.0

  -- a thread of this place is followed
  pub Rounds-followed : (bits' : List Bool) (kept' : List Stop) → AllLater text at kept'
      → Followed text spots at (stop_gives text spots p) None bits' kept kept' → Rounds text spots at goal bits' kept' rest
  Rounds-followed bits' kept' later followed = record {
    from = apart_from.1;
    later = later;
    spent = followed.0;
    finds =
        first_then (stops_give text spots kept') (stops_give text spots kept ++ stop_gives text spots p) (stops_give text spots rest) followed.1
        ∙ ap first_of (append_assoc (stops_give text spots kept) (stop_gives text spots p) (stops_give text spots rest)) ∙ apart_finds;
  }

  -- a thread of this place comes to a match
  pub Rounds-found : (bits' : List Bool) (kept' : List Stop) (m : Run)
      → Followed text spots at (stop_gives text spots p) (Some m) bits' kept kept'
      → option_or (first_of (stops_give text spots kept')) (Some m) ≡ goal
  Rounds-found bits' kept' m followed =
      sym (or_else_some (first_of (stops_give text spots kept')) (first_of (stops_give text spots rest)) m)
      ∙ ap (λ r. option_or r (first_of (stops_give text spots rest))) followed
      ∙ sym (first_of_two (stops_give text spots kept ++ stop_gives text spots p) (stops_give text spots rest))
      ∙ ap first_of (append_assoc (stops_give text spots kept) (stop_gives text spots p) (stops_give text spots rest)) ∙ apart_finds

-- when no thread is left
pub Rounds-end : (text : List ℕ) (spots : List Spot) (at : ℕ) (goal : Option Run) (bits : List Bool) (kept threads : List Stop) → threads ≡ []
    → Rounds text spots at goal bits kept threads → first_of (stops_give text spots kept) ≡ goal
Rounds-end text spots at goal bits kept threads e h =
    ap first_of (sym (append-nil (stops_give text spots kept))) ∙ ap (λ ts. first_of (stops_give text spots kept ++ stops_give text spots ts)) (sym e) ∙ h.finds

threads_at : {A : Type 0} (xs : List A) (i : ℕ) (x : A) → slice_get xs i ≡ Some x → drop i xs ≡ x ∷ drop (suc i) xs
threads_at [] i x e = absurd (none_is x e)
  where
    none_is : {A : Type 0} (a : A) → None ≡ Some a → ⊥
    none_is a e = cc
threads_at (y ∷ ys) zero x e = ap (λ z. z ∷ ys) (some_is e)
  where
    some_is : {A : Type 0} {a b : A} → Some a ≡ Some b → a ≡ b
    some_is e = cc
threads_at (y ∷ ys) (suc i) x e = threads_at ys i x e

-- the threads from one on
pub threads_from : {A : Type 0} (xs : List A) (i : ℕ) (x : A) → slice_get xs i ≡ Some x → drop i xs ≡ x ∷ drop (i + 1) xs
threads_from xs i x e = rw add-one (threads_at xs i x e)

module _ (text : List ℕ) (spots : List Spot) (at : ℕ) where
  -- a thread that goes on later is kept
  pub Followed-kept : (bits : List Bool) (old : List Stop) (p : Stop) → Spent text spots at bits (some_run (stops_give text spots old))
      → Followed text spots at (stop_gives text spots p) None bits old (old ++ p ∷ [])
  Followed-kept bits old p spent =
      let joined : stops_give text spots (old ++ p ∷ []) ≡ stops_give text spots old ++ stop_gives text spots p =
      flat_map-append (stop_gives text spots) old (p ∷ []) ∙ ap (λ xs. stops_give text spots old ++ xs) (append-nil _) in (
        (λ q k. elim (spent q k) [ inl some ↦ inl (ap some_run joined ∙ some_before (stops_give text spots old) _ some) | inr dead ↦ inr dead ]),
        ap first_of joined,
      )
    where
      some_before : (xs ys : List Run) → some_run xs ≡ true → some_run (xs ++ ys) ≡ true
      some_before [] ys k = absurd (true≢false (sym k))
      some_before (x ∷ xs) ys k = refl

  -- one after another
  pub Followed-then : (runs more : List Run) (found : Option Run) (bits bits' : List Bool) (old mid new : List Stop)
      → Followed text spots at runs None bits old mid → Followed text spots at more found bits' mid new
      → Followed text spots at (runs ++ more) found bits' old new
  Followed-then runs more None bits bits' old mid new h k = (k.0, k.1 ∙ Followed_join (h.1))
    where
      Followed_join : first_of (stops_give text spots mid) ≡ first_of (stops_give text spots old ++ runs)
          → first_of (stops_give text spots mid ++ more) ≡ first_of (stops_give text spots old ++ (runs ++ more))
      Followed_join e =
          first_then (stops_give text spots mid) (stops_give text spots old ++ runs) more e ∙ ap first_of (append_assoc (stops_give text spots old) runs more)
  Followed-then runs more (Some m) bits bits' old mid new h k =
      k ∙ first_then (stops_give text spots mid) (stops_give text spots old ++ runs) more h.1 ∙ ap first_of (append_assoc (stops_give text spots old) runs more)

  -- The answer stays from place to place
  pub answer-round : (groups : ℕ) → at ≤ length text → (runs kept : List Run) (best found : Option Run)
      → option_or (first_of kept) found ≡ first_of (runs ++ begins_unless text spots groups at best)
      → answer text spots groups (at + 1) kept (option_or found best) ≡ answer text spots groups at runs best
  answer-round groups within runs kept best found h =
      parts kept found best h ∙ ap (λ n. option_or (first_of runs) (option_or best (first_from text spots groups n at))) (sym places)
    where
      places : length text + 1 - at ≡ suc (length text + 1 - (at + 1))
      places = omega arith

      parts : (kept : List Run) (found best : Option Run) → option_or (first_of kept) found ≡ first_of (runs ++ begins_unless text spots groups at best)
          → option_or (first_of kept) (option_or (option_or found best) (first_from text spots groups (length text + 1 - (at + 1)) (at + 1)))
          ≡ option_or (first_of runs) (option_or best (first_from text spots groups (suc (length text + 1 - (at + 1))) at))
      parts kept found None e =
          or_assoc (first_of kept) found None (first_from text spots groups (length text + 1 - (at + 1)) (at + 1))
          ∙ ap (λ r. option_or r (first_from text spots groups (length text + 1 - (at + 1)) (at + 1))) (e ∙ first_of_two runs (begins text spots groups at))
          ∙ sym (or_assoc₂ (first_of runs) (first_of (begins text spots groups at)) (first_from text spots groups (length text + 1 - (at + 1)) (at + 1)))
      parts kept found (Some b) e =
          or_assoc (first_of kept) found (Some b) (first_from text spots groups (length text + 1 - (at + 1)) (at + 1))
          ∙ ap (λ r. option_or r (option_or (Some b) (first_from text spots groups (length text + 1 - (at + 1)) (at + 1)))) (e ∙ ap first_of (append-nil runs))

pub or_none : (x : Option Run) → option_or x None ≡ x
or_none None = refl
or_none (Some x) = refl

module _ (text : List ℕ) (spots : List Spot) (at groups : ℕ) where
  -- what is found at a place
  abbrev pub Finds : List Run → Option Run → List Stop → Type 0
  Finds runs found kept = option_or (first_of (stops_give text spots kept)) found ≡ first_of runs

  finds_from : (runs : List Run) (found : Option Run) (bits : List Bool) (old kept : List Stop) → old ≡ []
      → Followed text spots at runs found bits old kept → Finds runs found kept
  finds_from runs None bits old kept e h = or_none _ ∙ h.1 ∙ ap (λ ts. first_of (stops_give text spots ts ++ runs)) e
  finds_from runs (Some m) bits old kept e h = h ∙ ap (λ ts. first_of (stops_give text spots ts ++ runs)) e

  -- none begins here, since something was found
  pub finds-found : (runs : List Run) (m : Run) (best : Option Run) (bits : List Bool) (old kept : List Stop) → old ≡ []
      → Followed text spots at runs (Some m) bits old kept → Finds (runs ++ begins_unless text spots groups at best) (Some m) kept
  finds-found runs m best bits old kept e h =
      sym (or_else_some (first_of (stops_give text spots kept)) (first_of (begins_unless text spots groups at best)) m)
      ∙ ap (λ r. option_or r (first_of (begins_unless text spots groups at best))) (finds_from runs (Some m) bits old kept e h)
      ∙ sym (first_of_two runs (begins_unless text spots groups at best))

  -- none begins here, since something was found before
  pub finds-before : (runs : List Run) (best : Option Run) (bits : List Bool) (old kept : List Stop) → old ≡ [] → is_some best ≡ true
      → Followed text spots at runs None bits old kept → Finds (runs ++ begins_unless text spots groups at best) None kept
  finds-before runs None bits old kept e some h = absurd (true≢false (sym some))
  finds-before runs (Some b) bits old kept e some h = finds_from runs None bits old kept e h ∙ ap first_of (sym (append-nil runs))

  -- one begins here
  pub finds-begins : (runs : List Run) (found best : Option Run) (bits bits' : List Bool) (old mid kept : List Stop) (start : Stop) → old ≡ []
      → is_some best ≡ false → start ≡ (0, way [] (begin at groups))
      → Followed text spots at runs None bits old mid → Followed text spots start.1.run.at (stop_gives text spots start) found bits' mid kept
      → Finds (runs ++ begins_unless text spots groups at best) found kept
  finds-begins runs found (Some b) bits bits' old mid kept start e none_best starts h k = absurd (true≢false none_best)
  finds-begins runs found None bits bits' old mid kept start e none_best starts h k =
      let here : Followed text spots at (begins text spots groups at) found bits' mid kept =
      subst (λ (p : Stop). Followed text spots p.1.run.at (stop_gives text spots p) found bits' mid kept) starts k in
      finds_from (runs ++ begins text spots groups at) found bits' old kept e
      (Followed-then text spots at runs (begins text spots groups at) found bits bits' old mid kept h here)

-- what goes on after a place goes on from the next
pub AllFrom-later : (text : List ℕ) (at : ℕ) (kept : List Stop) → AllLater text at kept → AllFrom text (at + 1) kept
AllFrom-later text at kept h =
    All-weaker (λ (p : Stop). (at < p.1.run.at) × (p.1.run.at ≤ length text)) (λ (p : Stop). (at + 1 ≤ p.1.run.at) × (p.1.run.at ≤ length text)) kept h
    (λ p k. (omega (arith, k.0), k.1))

module _ (text : List ℕ) (spots : List Spot) (at groups : ℕ) where
  -- the answer of a search that is over
  pub answer-over : (threads : List Stop) (best : Option Run) → threads ≡ [] → is_some best ≡ true
      → answer text spots groups at (stops_give text spots threads) best ≡ best
  answer-over threads None e some = absurd (true≢false (sym some))
  answer-over threads (Some b) e some = ap (λ ts. answer text spots groups at (stops_give text spots ts) (Some b)) e

  -- and after the end of the text
  pub answer-end : (threads : List Stop) (best : Option Run) → length text < at → AllFrom text at threads
      → answer text spots groups at (stops_give text spots threads) best ≡ best
  answer-end threads best past from =
      ap (λ ps. option_or (first_of (stops_give text spots ps)) (option_or best (first_from text spots groups (length text + 1 - at) at))) (gone threads from)
      ∙ ap (λ n. option_or best (first_from text spots groups n at)) places ∙ or_none best
    where
      places : length text + 1 - at ≡ 0
      places = omega arith

      gone : (ps : List Stop) → AllFrom text at ps → ps ≡ []
      gone [] h = refl
      gone (p ∷ ps) h = absurd (omega (arith, h.0.0, h.0.1))
